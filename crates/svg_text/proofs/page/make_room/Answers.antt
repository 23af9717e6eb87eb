use Rattle.svg_text.proofs.Steps.{prints_nothing}
use Rattle.svg_text.proofs.page.make_room.Goals as goal

pub returns-then-not-is_full-clause-prints : goal.returns-then-not-is_full-clause-prints
returns-then-not-is_full-clause-prints g c = prints_nothing c.args.out.now c.args.page.now _
