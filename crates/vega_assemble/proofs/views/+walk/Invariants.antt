use Rattle.std.proofs.Common.{◌≡◌, ◌+◌, ◌*◌, ◌++◌, drop, map}
use Rattle.plan_kit.specs.declared.views.ViewPlan.{size-ViewPlan}
use Rattle.vega_assemble.specs.Made.{rolled}
use Rattle.vega_assemble.specs.Views.{joined, view_made}
use Rattle.vega_assemble.proofs.views.+walk.Given as goal

abbrev pub decreases-view_made : goal.decreases-view_made
decreases-view_made l = 8 * size-ViewPlan l.view.now

abbrev pub decreases-grid_at : goal.decreases-grid_at
decreases-grid_at l = 8 * goal.size-grid_at l + 4

abbrev pub decreases-grid_made : goal.decreases-grid_made
decreases-grid_made l = 8 * goal.size-grid_made l + 3

abbrev pub decreases-cells_of : goal.decreases-cells_of
decreases-cells_of l = 8 * goal.size-cells_of l + 2

abbrev pub decreases-joined : goal.decreases-joined
decreases-joined l = 8 * goal.size-joined l + 1

abbrev pub decreases-faceted : goal.decreases-faceted
decreases-faceted l = 8 * goal.size-faceted l + 1

abbrev pub invariant-joined-loop-view : goal.invariant-joined-loop-view
invariant-joined-loop-view l =
    l.out ++ rolled (joined (map (view_made l.stem l.p) (drop l.view-index l.views))) ≡ rolled (joined (map (view_made l.stem l.p) l.views))
