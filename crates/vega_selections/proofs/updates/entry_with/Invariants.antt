use Rattle.std.proofs.Common.{◌≡◌, drop}
use Rattle.vega_selections.specs.Updates.{entry_with}
use Rattle.vega_selections.proofs.updates.entry_with.Given as goal

abbrev pub invariant-loop-entry : goal.invariant-loop-entry
invariant-loop-entry l = entry_with l.events (drop l.entry-index l.entries) ≡ entry_with l.events l.entries
