use Rattle.std.proofs.Common.{◌≡◌, ◌+◌, ◌*◌, drop, map}
use Rattle.vl_spec.specs.declared.filters.Filter.{size-Filter}
use Rattle.vl_trails.specs.Judging.{after}
use Rattle.vl_names.specs.Filters.{each_item, filter_faults, items_from}
use Rattle.vl_names.specs.inner.Looked.{known_shown}
use Rattle.vl_names.proofs.filters.+filters.Given as goal

abbrev pub decreases-judge_filter : goal.decreases-judge_filter
decreases-judge_filter l = 4 * size-Filter l.filter.now

abbrev pub decreases-judge_not : goal.decreases-judge_not
decreases-judge_not l = 4 * size-Filter l.filter.now + 1

abbrev pub decreases-judge_list : goal.decreases-judge_list
decreases-judge_list l = 4 * goal.size-judge_list l + 3

abbrev pub decreases-judge_items : goal.decreases-judge_items
decreases-judge_items l = 4 * goal.size-judge_items l + 2

abbrev pub decreases-judge_item : goal.decreases-judge_item
decreases-judge_item l = 4 * size-Filter l.filter.now + 1

abbrev pub invariant-judge_items-loop-number : goal.invariant-judge_items-loop-number
invariant-judge_items-loop-number l =
    after l.j (items_from l.number (map (filter_faults (known_shown l.known)) (drop l.number l.filters)) l.j.trail)
    ≡ after l.fn.j (each_item (map (filter_faults (known_shown l.known)) l.filters) l.fn.j.trail)
