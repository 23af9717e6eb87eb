use Rattle.std.proofs.Common.{Some, ap, sym, ◌∙◌}
use Rattle.std.specs.Option.{option_map}
use Rattle.std.specs.List.{enumerate_from}
use Rattle.vl_names.specs.Circles.{needs_among}
use Rattle.vl_names.specs.Params.{breaking}
use Rattle.vl_names.specs.inner.Looked.{named_by}
use Rattle.vl_names.proofs.CircleLemmas.{at_expr, circle_found}
use Rattle.vl_names.proofs.circles.first_on_circle.Goals as goal

pub returns-in_ok-inside-in-Some : goal.returns-in_ok-inside-in-Some
returns-in_ok-inside-in-Some c =
    (λ i. Some (breaking c.in-Some.number (c.in_ok-inside-in-Some.ensures i)))
    ∙ ap (option_map at_expr) (sym c.in-Some.is ∙ c.in_ok-number.ensures)
    ∙ circle_found (needs_among (named_by c.args.index.now) c.args.params.now) (enumerate_from 0 c.args.params.now)

pub returns-in-None : goal.returns-in-None
returns-in-None c =
    ap (option_map at_expr) (sym c.in-None.is ∙ c.in_ok-number.ensures)
    ∙ circle_found (needs_among (named_by c.args.index.now) c.args.params.now) (enumerate_from 0 c.args.params.now)
