use Rattle.std.proofs.Common.{◌≡◌, ◌++◌, take}
use Rattle.vl_spec.proofs.filters.+filters.Given as goal

abbrev pub invariant-push_copies-loop-filter : goal.invariant-push_copies-loop-filter
invariant-push_copies-loop-filter l = l.out ≡ l.fn.out ++ take l.filter-index l.filters
