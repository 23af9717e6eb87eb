use Rattle.std.proofs.Common.{◌≡◌, ◌++◌, drop, filter}
use Rattle.std.specs.Prelude.{not}
use Rattle.selection_events.specs.Stores.{is_same_tuple}
use Rattle.selection_events.proofs.stores.others_of.Given as goal

abbrev pub invariant-loop-other : goal.invariant-loop-other
invariant-loop-other l =
    l.out ++ filter (λ t. not (is_same_tuple l.fields l.tuple t)) (drop l.other-index l.tuples)
    ≡ filter (λ t. not (is_same_tuple l.fields l.tuple t)) l.tuples
