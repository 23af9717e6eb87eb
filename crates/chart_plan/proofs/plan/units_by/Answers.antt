use Rattle.std.proofs.Common.{◌≡◌, List, map, subst}
use Rattle.std.specs.Prelude.{IfOk}
use Rattle.vl_spec.specs.declared.params.ParamOf.{ParamOf}
use Rattle.vl_compose.specs.Shown.{unit_shown}
use Rattle.chart_plan.specs.Plan.{unit_by}
use Rattle.chart_plan.proofs.plan.units_by.Goals as goal

pub returns : goal.returns
returns c =
    let all : List ParamOf → Type 0 = λ params.
    IfOk c.units_named.result (λ plans. plans ≡ map (unit_by params c.args.scales.now) (map unit_shown c.args.units.now)) in
    subst all c.in_ok-names.ensures c.units_named.ensures
