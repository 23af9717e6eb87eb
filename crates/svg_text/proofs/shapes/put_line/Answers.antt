use Rattle.std.proofs.Common.{◌++◌}
use Rattle.std.specs.Prelude.{codes}
use Rattle.fixed_num.specs.Decimal.{spelling}
use Rattle.svg_text.proofs.Steps.{prints_begun, prints_same, prints_then, four_joined}
use Rattle.svg_text.proofs.shapes.put_line.Goals as goal

pub returns-in_err-put_two : goal.returns-in_err-put_two
returns-in_err-put_two g c =
    prints_begun ((codes "\" x2=\"" ++ spelling c.args.x2) ++ ((codes "\" y2=\"" ++ spelling c.args.y2) ++ codes "\"")) _
    (four_joined (codes "<") (codes "line") (codes " ") (codes "=\"") (codes "\"") (codes "x1") (spelling c.args.x1) (codes "y1")
    (spelling c.args.y1) (codes "x2") (spelling c.args.x2) (codes "y2") (spelling c.args.y2))
    c.from_residual.ensures.0 c.in_err-put_two.ensures

pub returns : goal.returns
returns g c =
    prints_same
    (four_joined (codes "<") (codes "line") (codes " ") (codes "=\"") (codes "\"") (codes "x1") (spelling c.args.x1) (codes "y1")
    (spelling c.args.y1) (codes "x2") (spelling c.args.x2) (codes "y2") (spelling c.args.y2))
    (prints_then c.in_ok-put_two.ensures c.put_last_two.ensures)
