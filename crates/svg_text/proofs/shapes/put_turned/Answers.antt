use Rattle.std.proofs.Common.{append_assoc}
use Rattle.svg_text.proofs.Steps.{prints_same}
use Rattle.svg_text.proofs.shapes.put_turned.Goals as goal

pub returns : goal.returns
returns g c = prints_same (simp append_assoc) c.put_pieces.ensures
