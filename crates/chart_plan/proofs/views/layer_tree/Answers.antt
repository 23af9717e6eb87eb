use Rattle.std.proofs.Common.{◌≡◌, sym, subst}
use Rattle.std.specs.Prelude.{IfOk}
use Rattle.chart_plan.specs.declared.views.Counted.{Counted}
use Rattle.plan_kit.specs.declared.views.ViewPlan.{ViewPlan}
use Rattle.chart_plan.proofs.ViewLemmas.{layer_is}
use Rattle.chart_plan.proofs.views.layer_tree.Goals as goal

pub returns : goal.returns
returns c =
    let all : ViewPlan × Counted → Type 0 = λ p. IfOk c.plot_tree.result (λ plan. (plan, c.plot_tree.new.counted) ≡ p) in
    subst all (sym (layer_is c.args.layer.now c.args.counted.now)) c.plot_tree.ensures
