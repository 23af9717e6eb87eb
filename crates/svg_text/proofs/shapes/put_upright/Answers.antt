use Rattle.std.specs.Prelude.{codes}
use Rattle.fixed_num.specs.Decimal.{spelling}
use Rattle.svg_text.proofs.Steps.{prints_same, two_joined}
use Rattle.svg_text.proofs.shapes.put_upright.Goals as goal

pub returns : goal.returns
returns g c = prints_same (two_joined (codes "<text") (codes " ") (codes "=\"") (codes "\"") (codes "x")
    (spelling c.args.x) (codes "y") (spelling c.args.y)) c.put_last_two.ensures
