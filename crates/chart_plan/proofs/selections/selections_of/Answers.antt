use Rattle.std.proofs.Common.{◌≡◌, List, ◌∙◌, length, refl, subst}
use Rattle.std.specs.Prelude.{IfOk}
use Rattle.plan_kit.specs.declared.selections.SelectionPlan.{SelectionPlan}
use Rattle.chart_plan.proofs.MarkedLemmas.{all_same}
use Rattle.chart_plan.proofs.selections.selections_of.Goals as goal

pub returns : goal.returns
returns c =
    let all : List SelectionPlan → Type 0 = λ told. IfOk c.all_marked.result (λ plans. plans ≡ told) in
    let same = all_same (length c.args.params.now) c.as_slice.result.now c.args.params.now c.args.units.now c.args.scales.now c.args.plots.now refl
    (c.as_slice.ensures ∙ c.in_ok-marks.ensures) in
    subst all same c.all_marked.ensures
