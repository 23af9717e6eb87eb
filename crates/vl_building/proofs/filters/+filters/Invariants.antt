use Rattle.std.proofs.Common.{◌≡◌, take, drop, map, ◌+◌, ◌*◌}
use Rattle.json_exact.specs.declared.json.Json.{size-Json}
use Rattle.vl_building.specs.Inside.{member_gives}
use Rattle.vl_building.specs.Filters.{as_filter, filter_of, needed_filter, filters_given}
use Rattle.vl_building.proofs.filters.+filters.Given as goal

abbrev pub decreases-filter_of : goal.decreases-filter_of
decreases-filter_of l = 6 * size-Json l.tree.now + 0

abbrev pub decreases-filters_of : goal.decreases-filters_of
decreases-filters_of l = 6 * size-Json l.tree.now + 1

abbrev pub decreases-object_filter : goal.decreases-object_filter
decreases-object_filter l = 6 * goal.size-object_filter l + 3

abbrev pub decreases-needed_filter : goal.decreases-needed_filter
decreases-needed_filter l = 6 * goal.size-needed_filter l + 2

abbrev pub decreases-filters_at : goal.decreases-filters_at
decreases-filters_at l = 6 * goal.size-filters_at l + 2

abbrev pub decreases-filters_in : goal.decreases-filters_in
decreases-filters_in l = 6 * goal.size-filters_in l + 1

abbrev pub invariant-filters_in-loop-tree : goal.invariant-filters_in-loop-tree
invariant-filters_in-loop-tree l = l.filters ≡ map filter_of (take l.tree-index l.items)

abbrev pub invariant-needed_filter-loop-member : goal.invariant-needed_filter-loop-member
invariant-needed_filter-loop-member l = needed_filter (drop l.member-index l.members) l.name ≡ needed_filter l.members l.name

abbrev pub invariant-filters_at-loop-member : goal.invariant-filters_at-loop-member
invariant-filters_at-loop-member l = filters_given (member_gives as_filter (drop l.member-index l.members) l.name)
    ≡ filters_given (member_gives as_filter l.members l.name)
