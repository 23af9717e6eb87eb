use Rattle.std.proofs.Common.{◌++◌}
use Rattle.std.specs.Prelude.{codes}
use Rattle.fixed_num.specs.Decimal.{spelling}
use Rattle.svg_text.proofs.Steps.{prints_begun, prints_same, prints_then, three_joined}
use Rattle.svg_text.proofs.shapes.put_circle.Goals as goal

pub returns-in_err-put_two : goal.returns-in_err-put_two
returns-in_err-put_two g c =
    prints_begun ((codes "\" r=\"" ++ spelling c.args.r) ++ codes "\"") _
    (three_joined (codes "<") (codes "circle") (codes " ") (codes "=\"") (codes "\"") (codes "cx")
    (spelling c.args.x) (codes "cy") (spelling c.args.y) (codes "r") (spelling c.args.r))
    c.from_residual.ensures.0 c.in_err-put_two.ensures

pub returns : goal.returns
returns g c =
    prints_same
    (three_joined (codes "<") (codes "circle") (codes " ") (codes "=\"") (codes "\"") (codes "cx")
    (spelling c.args.x) (codes "cy") (spelling c.args.y) (codes "r") (spelling c.args.r))
    (prints_then c.in_ok-put_two.ensures c.put_last.ensures)
