use Rattle.std.proofs.Common.{◌≡◌, Some, drop, map, flat_map, ◌+◌, ◌*◌}
use Rattle.std.specs.List.{enumerate_from}
use Rattle.json_exact.specs.declared.json.Json.{size-Json}
use Rattle.spec_schema.specs.Faults.{faults_in, list_faults, item_faults, member_faults, judged_members, first}
use Rattle.spec_schema.proofs.search.+search.Given as goal

abbrev pub decreases-first_fault : goal.decreases-first_fault
decreases-first_fault l = 6 * size-Json l.tree.now

abbrev pub decreases-first_in_list : goal.decreases-first_in_list
decreases-first_in_list l = 6 * goal.size-first_in_list l + 2

abbrev pub decreases-first_in_items : goal.decreases-first_in_items
decreases-first_in_items l = 6 * goal.size-first_in_items l + 1

abbrev pub decreases-first_in_object : goal.decreases-first_in_object
decreases-first_in_object l = 6 * goal.size-first_in_object l + 4

abbrev pub decreases-first_by_layout : goal.decreases-first_by_layout
decreases-first_by_layout l = 6 * goal.size-first_by_layout l + 3

abbrev pub decreases-first_in_members : goal.decreases-first_in_members
decreases-first_in_members l = 6 * goal.size-first_in_members l + 2

abbrev pub decreases-first_in_member : goal.decreases-first_in_member
decreases-first_in_member l = 6 * goal.size-first_in_member l + 1

abbrev pub invariant-first_in_items-loop-number : goal.invariant-first_in_items-loop-number
invariant-first_in_items-loop-number l =
    first (flat_map (item_faults l.shape) (enumerate_from l.number (map (faults_in l.schema) (drop l.number l.items)))) ≡
    first (list_faults (Some l.shape) (map (faults_in l.schema) l.items))

abbrev pub invariant-first_in_members-loop-number : goal.invariant-first_in_members-loop-number
invariant-first_in_members-loop-number l =
    first (flat_map (member_faults l.layout) (enumerate_from l.number (judged_members l.schema (drop l.number l.members)))) ≡
    first (flat_map (member_faults l.layout) (enumerate_from 0 (judged_members l.schema l.members)))
