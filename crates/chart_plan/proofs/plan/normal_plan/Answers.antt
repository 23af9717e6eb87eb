use Rattle.std.proofs.Common.{◌≡◌, List, map, subst, ap, ◌∙◌}
use Rattle.std.specs.Prelude.{IfOk}
use Rattle.vl_compose.specs.Shown.{unit_shown}
use Rattle.vl_compose.specs.Units.{UnitAt}
use Rattle.chart_plan.specs.Plan.{plan_among}
use Rattle.chart_plan.proofs.plan.normal_plan.Goals as goal

pub returns : goal.returns
returns c =
    let all : List UnitAt → Type 0 = λ units. IfOk c.plan_among.result (λ plan. plan ≡ plan_among c.args.s.now units) in
    subst all (ap (map unit_shown) c.as_slice.ensures ∙ c.in_ok-units.ensures) c.plan_among.ensures
