use Rattle.std.proofs.Common.{◌≡◌, drop}
use Rattle.std.specs.List.{list_any}
use Rattle.selection_events.specs.Stores.{is_same_tuple}
use Rattle.selection_events.proofs.stores.is_among.Given as goal

abbrev pub invariant-loop-other : goal.invariant-loop-other
invariant-loop-other l =
    list_any (is_same_tuple l.fields l.tuple) (drop l.other-index l.tuples) ≡ list_any (is_same_tuple l.fields l.tuple) l.tuples
