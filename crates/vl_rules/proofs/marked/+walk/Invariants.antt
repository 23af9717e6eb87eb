use Rattle.std.proofs.Common.{◌≡◌, ◌+◌, ◌*◌, drop, map}
use Rattle.vl_spec.specs.declared.views.View.{size-View}
use Rattle.vl_compose.specs.Rounds.{in_order, rounds_in}
use Rattle.vl_compose.specs.Shown.{round_shown}
use Rattle.vl_rules.specs.inner.Found.{found_shown, after}
use Rattle.vl_rules.proofs.marked.+walk.Given as goal

abbrev pub decreases-walk_view : goal.decreases-walk_view
decreases-walk_view l = 4 * size-View l.view.now

abbrev pub decreases-walk_alone : goal.decreases-walk_alone
decreases-walk_alone l = 4 * size-View l.view.now + 1

abbrev pub decreases-walk_row : goal.decreases-walk_row
decreases-walk_row l = 4 * goal.size-walk_row l + 2

abbrev pub decreases-walk_views : goal.decreases-walk_views
decreases-walk_views l = 4 * goal.size-walk_views l + 1

abbrev pub invariant-walk_views-loop-child : goal.invariant-walk_views-loop-child
invariant-walk_views-loop-child l =
    after (found_shown l.found) (in_order (map rounds_in (drop l.child l.views)) (round_shown l.outer) l.child l.found.count)
    ≡ after (found_shown l.fn.found) (in_order (map rounds_in l.views) (round_shown l.outer) 0 l.fn.found.count)
