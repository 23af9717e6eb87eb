use Rattle.std.proofs.Common.{◌≡◌, take, drop, map, ◌+◌, ◌*◌}
use Rattle.std.specs.Prelude.{codes}
use Rattle.json_exact.specs.declared.json.Json.{size-Json}
use Rattle.vl_building.specs.Channels.{condition_of, conditions_at}
use Rattle.vl_building.proofs.channels.+conditions.Given as goal

abbrev pub decreases-condition_of : goal.decreases-condition_of
decreases-condition_of l = 6 * size-Json l.tree.now + 4

abbrev pub decreases-conditions_of : goal.decreases-conditions_of
decreases-conditions_of l = 6 * size-Json l.tree.now + 1

abbrev pub decreases-object_condition : goal.decreases-object_condition
decreases-object_condition l = 6 * goal.size-object_condition l + 3

abbrev pub decreases-conditions_in : goal.decreases-conditions_in
decreases-conditions_in l = 6 * goal.size-conditions_in l + 5

abbrev pub decreases-conditions_at : goal.decreases-conditions_at
decreases-conditions_at l = 6 * goal.size-conditions_at l + 2

abbrev pub invariant-conditions_in-loop-tree : goal.invariant-conditions_in-loop-tree
invariant-conditions_in-loop-tree l = l.out ≡ map condition_of (take l.tree-index l.items)

abbrev pub invariant-conditions_at-loop-member : goal.invariant-conditions_at-loop-member
invariant-conditions_at-loop-member l = conditions_at (drop l.member-index l.members) (codes "condition") ≡ conditions_at l.members (codes "condition")
