use Rattle.std.proofs.Common.{◌≡◌, subst}
use Rattle.std.specs.Prelude.{IfOk}
use Rattle.vl_spec.specs.declared.spec.VlSpec.{VlSpec}
use Rattle.chart_plan.specs.Plan.{normal_plan}
use Rattle.chart_plan.proofs.plan.plan_of.Goals as goal

pub returns : goal.returns
returns c =
    let all : VlSpec → Type 0 = λ s. IfOk c.normal_plan.result (λ plan. plan ≡ normal_plan s) in
    subst all c.in_ok-normal.ensures c.normal_plan.ensures
