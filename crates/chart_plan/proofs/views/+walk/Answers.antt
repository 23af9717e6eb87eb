use Rattle.std.proofs.Common.{◌≡◌, ◌≤◌, [], ◌∷◌, ◌++◌, ap, length, map, subst, sym, ◌∙◌, arith}
use Rattle.std.specs.Prelude.{IfOk}
use Rattle.chart_plan.specs.declared.views.Counted.{Counted}
use Rattle.plan_kit.specs.declared.views.ViewPlan.{ViewPlan}
use Rattle.chart_plan.specs.Views.{in_row, tree_of}
use Rattle.chart_plan.proofs.ViewLemmas.{view_is, unit_is, layered_is, facet_is, join_is, faceted_made, joined_made, one_more, all_done}
use Rattle.chart_plan.proofs.views.+walk.Goals as goal

pub tree_of-returns : goal.tree_of-returns
tree_of-returns t c =
    let all : ViewPlan × Counted → Type 0 = λ p. IfOk c.kind_tree.result (λ plan. (plan, c.kind_tree.new.counted) ≡ p) in
    subst all (sym (view_is c.args.view.now c.args.counted.now)) c.kind_tree.ensures

pub kind_tree-returns-in-Unit : goal.kind_tree-returns-in-Unit
kind_tree-returns-in-Unit t c =
    let all : ViewPlan × Counted → Type 0 = λ p. IfOk c.plot_tree.result (λ plan. (plan, c.plot_tree.new.counted) ≡ p) in
    subst all (sym (unit_is c.args.kind.now _ c.args.counted.now c.in-Unit.is)) c.plot_tree.ensures

pub kind_tree-returns-in-Layer : goal.kind_tree-returns-in-Layer
kind_tree-returns-in-Layer t c =
    let all : ViewPlan × Counted → Type 0 = λ p. IfOk c.layer_tree.result (λ plan. (plan, c.layer_tree.new.counted) ≡ p) in
    subst all (sym (layered_is c.args.kind.now _ c.args.counted.now c.in-Layer.is)) c.layer_tree.ensures

pub kind_tree-returns-in-Facet : goal.kind_tree-returns-in-Facet
kind_tree-returns-in-Facet t c =
    let all : ViewPlan × Counted → Type 0 = λ p. IfOk c.faceted_tree.result (λ plan. (plan, c.faceted_tree.new.counted) ≡ p) in
    subst all (sym (facet_is c.args.kind.now _ c.args.counted.now c.in-Facet.is)) c.faceted_tree.ensures

pub kind_tree-returns-in-Joined : goal.kind_tree-returns-in-Joined
kind_tree-returns-in-Joined t c =
    let all : ViewPlan × Counted → Type 0 = λ p. IfOk c.joined_tree.result (λ plan. (plan, c.joined_tree.new.counted) ≡ p) in
    subst all (sym (join_is c.args.kind.now _ c.args.counted.now c.in-Joined.is)) c.joined_tree.ensures

pub faceted_tree-returns : goal.faceted_tree-returns
faceted_tree-returns t c =
    faceted_made c.args.faceted.now c.get.result.now c.args.counted.now c.count_grid.new.counted c.tree_of.new.counted _ _ c.get.ensures
    c.in_ok-count_grid.ensures c.in_ok-tree_of.ensures (c.in_ok-push.ensures.ok ∙ ap (λ ps. ps ++ c.in_ok-tree_of.field-0 ∷ []) c.new-views.ensures)

pub joined_tree-returns : goal.joined_tree-returns
joined_tree-returns t c =
    joined_made c.args.joined.now c.args.counted.now c.count_grid.new.counted c.row_trees.new.counted _ c.in_ok-count_grid.ensures c.in_ok-views.ensures

pub row_trees-loop-view-preserved : goal.row_trees-loop-view-preserved
row_trees-loop-view-preserved t c =
    one_more _ c.loop-view.view-index _ c.loop-view.out _ _ c.loop-view.counted c.tree_of.new.counted _
    c.loop-view-test.true c.view-item.is c.in_ok-tree_of.ensures c.in_ok-push.ensures.ok c.loop-view.invariant

pub row_trees-returns : goal.row_trees-returns
row_trees-returns t c =
    let past = c.loop-view-test.false in
    let over : length c.as_slice-view-items.result.now ≤ c.loop-view.view-index = omega arith in
    all_done c.as_slice-view-items.result.now c.loop-view.view-index c.loop-view.out c.loop-view.counted _ over c.loop-view.invariant
    ∙ ap (λ vs. in_row (map tree_of vs) c.args.counted.now) c.as_slice-view-items.ensures
