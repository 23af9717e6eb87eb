use Rattle.std.proofs.Common.{◌++◌}
use Rattle.std.specs.Prelude.{codes}
use Rattle.fixed_num.specs.Decimal.{spelling}
use Rattle.svg_text.proofs.Steps.{prints_begun, prints_same, prints_then, four_joined}
use Rattle.svg_text.proofs.shapes.put_rect.Goals as goal

pub returns-in_err-put_two : goal.returns-in_err-put_two
returns-in_err-put_two g c =
    prints_begun ((codes "\" width=\"" ++ spelling c.args.width) ++ ((codes "\" height=\"" ++ spelling c.args.height) ++ codes "\"")) _
    (four_joined (codes "<") (codes "rect") (codes " ") (codes "=\"") (codes "\"") (codes "x") (spelling c.args.x) (codes "y") (spelling c.args.y)
    (codes "width") (spelling c.args.width) (codes "height") (spelling c.args.height))
    c.from_residual.ensures.0 c.in_err-put_two.ensures

pub returns : goal.returns
returns g c =
    prints_same
    (four_joined (codes "<") (codes "rect") (codes " ") (codes "=\"") (codes "\"") (codes "x") (spelling c.args.x) (codes "y") (spelling c.args.y)
    (codes "width") (spelling c.args.width) (codes "height") (spelling c.args.height))
    (prints_then c.in_ok-put_two.ensures c.put_last_two.ensures)
