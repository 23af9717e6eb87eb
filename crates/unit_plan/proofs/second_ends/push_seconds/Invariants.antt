use Rattle.std.proofs.Common.{◌≡◌, ◌++◌, drop, map}
use Rattle.unit_plan.specs.Ends.{second, way}
use Rattle.unit_plan.specs.Selections.{is_selection}
use Rattle.unit_plan.specs.inner.Lent.{branches_shown}
use Rattle.unit_plan.specs.inner.LentLanes.{lane_shown}
use Rattle.unit_plan.proofs.second_ends.push_seconds.Given as goal

abbrev pub invariant-loop-branch : goal.invariant-loop-branch
invariant-loop-branch l =
    l.out ++ map (way (is_selection l.names.params.now) (second l.centre (lane_shown l.lane))) (branches_shown (drop l.branch-index l.branch-items))
    ≡ l.fn.out ++ map (way (is_selection l.names.params.now) (second l.centre (lane_shown l.lane))) (branches_shown l.branch-items)
