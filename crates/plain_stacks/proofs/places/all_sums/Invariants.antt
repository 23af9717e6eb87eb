use Rattle.std.proofs.Common.{◌≡◌, ◌++◌, map, drop}
use Rattle.plain_stacks.specs.inner.Sums.{values_at, sums_of}
use Rattle.plain_stacks.proofs.places.all_sums.Given as goal

abbrev pub invariant-loop-list : goal.invariant-loop-list
invariant-loop-list l =
    l.sums ++ map (λ list. sums_of l.offset (values_at l.amounts list)) (drop l.list-index l.lists)
    ≡ map (λ list. sums_of l.offset (values_at l.amounts list)) l.lists
