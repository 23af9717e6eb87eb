use Rattle.std.proofs.Common.{◌≡◌, List, subst}
use Rattle.std.specs.Prelude.{IfOk}
use Rattle.vl_spec.specs.declared.filters.Filter.{Filter}
use Rattle.vl_building.specs.Filters.{filter_of}
use Rattle.vl_building.proofs.MadeLemmas.{one_made}
use Rattle.vl_building.proofs.FilterLemmas.{object_is, list_is}
use Rattle.vl_building.proofs.filters.+filters.Goals as goal

pub filter_of-returns-in-Object : goal.filter_of-returns-in-Object
filter_of-returns-in-Object t c =
    let is : Filter → Type 0 = λ y. IfOk c.object_filter.result (λ f. f ≡ y) in
    subst is (object_is c.args.tree.now c.in-Object.members _ c.in-Object.is c.as_slice.ensures) c.object_filter.ensures

pub filters_of-returns-in-List : goal.filters_of-returns-in-List
filters_of-returns-in-List t c =
    let are : List Filter → Type 0 = λ y. IfOk c.filters_in.result (λ fs. fs ≡ y) in
    subst are (list_is c.args.tree.now c.in-List.items _ c.in-List.is c.as_slice.ensures) c.filters_in.ensures

pub filters_in-loop-tree-preserved : goal.filters_in-loop-tree-preserved
filters_in-loop-tree-preserved t c =
    one_made filter_of c.args.items.now c.loop-tree.tree-index c.tree-item.result c.loop-tree.filters _ c.loop-tree-test.true c.tree-item.is
    c.loop-tree.invariant (c.in_ok-push_made.ensures _ c.filter_of.ensures)
