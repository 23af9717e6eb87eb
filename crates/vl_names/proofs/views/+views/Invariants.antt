use Rattle.std.proofs.Common.{◌≡◌, ◌+◌, ◌*◌, ◌++◌, drop, map}
use Rattle.vl_spec.specs.declared.views.View.{size-View}
use Rattle.vl_names.specs.Views.{in_list, list_from, views_in}
use Rattle.vl_names.specs.inner.Shown.{view_shown}
use Rattle.vl_names.proofs.views.+views.Given as goal

abbrev pub decreases-push_view : goal.decreases-push_view
decreases-push_view l = 4 * size-View l.view.now

abbrev pub decreases-push_only : goal.decreases-push_only
decreases-push_only l = 4 * size-View l.view.now + 1

abbrev pub decreases-push_list : goal.decreases-push_list
decreases-push_list l = 4 * goal.size-push_list l + 3

abbrev pub decreases-push_items : goal.decreases-push_items
decreases-push_items l = 4 * goal.size-push_items l + 2

abbrev pub decreases-push_item : goal.decreases-push_item
decreases-push_item l = 4 * size-View l.view.now + 1

abbrev pub invariant-push_items-loop-number : goal.invariant-push_items-loop-number
invariant-push_items-loop-number l =
    map view_shown l.out ++ list_from l.number (map views_in (drop l.number l.views)) l.trail
    ≡ map view_shown l.fn.out ++ in_list (map views_in l.views) l.trail
