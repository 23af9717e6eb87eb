use Rattle.std.proofs.Common.{◌≡◌, drop}
use Rattle.selection_events.specs.Stores.{is_same_tuple}
use Rattle.selection_events.proofs.tuples.is_same_tuple.Given as goal

abbrev pub invariant-loop-field : goal.invariant-loop-field
invariant-loop-field l = is_same_tuple (drop l.field-index l.fields) l.a l.b ≡ is_same_tuple l.fields l.a l.b
