use Rattle.std.proofs.Common.{◌≡◌, ◌++◌, map, drop}
use Rattle.plain_orders.specs.declared.entries.Entry.{Entry}
use Rattle.plain_orders.proofs.entries.places.Given as goal

abbrev pub invariant-loop-entry : goal.invariant-loop-entry
invariant-loop-entry l = l.places ++ map (λ (entry : Entry). entry.place) (drop l.entry-index l.entries)
    ≡ map (λ (entry : Entry). entry.place) l.entries
