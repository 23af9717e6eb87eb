use Rattle.std.proofs.Common.{◌≡◌, ◌++◌}
use Rattle.std.specs.Vec.Iter.{into_iter_items}
use Rattle.vega_writing.specs.Slots.{present}
use Rattle.vega_writing.proofs.slots.object_of.Given as goal

-- the members so far, and then those that are left
abbrev pub invariant-loop-slot : goal.invariant-loop-slot
invariant-loop-slot l = l.members ++ present (into_iter_items l.slot-iterator) ≡ present l.fn.slots
