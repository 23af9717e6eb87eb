use Rattle.std.proofs.Common.{◌≡◌, ◌++◌, drop, map}
use Rattle.unit_plan.specs.Ends.{stand, way}
use Rattle.unit_plan.specs.Selections.{is_selection}
use Rattle.unit_plan.specs.inner.Lent.{branches_shown}
use Rattle.unit_plan.specs.inner.LentLanes.{lane_shown}
use Rattle.unit_plan.proofs.ends.push_ways.Given as goal

abbrev pub invariant-loop-branch : goal.invariant-loop-branch
invariant-loop-branch l =
    l.out ++ map (way (is_selection l.names.params.now) (stand l.end (lane_shown l.lane))) (branches_shown (drop l.branch-index l.branch-items))
    ≡ l.fn.out ++ map (way (is_selection l.names.params.now) (stand l.end (lane_shown l.lane))) (branches_shown l.branch-items)
