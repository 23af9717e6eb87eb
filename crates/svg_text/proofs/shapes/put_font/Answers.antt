use Rattle.std.specs.Prelude.{codes}
use Rattle.fixed_num.specs.Decimal.{spelling}
use Rattle.svg_text.proofs.Steps.{prints_same, attributes_joined}
use Rattle.svg_text.proofs.shapes.put_font.Goals as goal

pub returns : goal.returns
returns g c = prints_same (attributes_joined (codes " ") (codes "text-anchor") (codes "=\"") c.args.anchor.now (codes "\"")
    (codes "font-size") (spelling c.args.size)) c.put_pieces.ensures
