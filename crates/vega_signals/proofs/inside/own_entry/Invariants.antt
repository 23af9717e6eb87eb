use Rattle.std.proofs.Common.{◌≡◌, drop}
use Rattle.vega_signals.specs.Settling.{first_named}
use Rattle.vega_signals.proofs.inside.own_entry.Given as goal

abbrev pub invariant-loop-entry : goal.invariant-loop-entry
invariant-loop-entry l = first_named (drop l.entry-index l.own) l.name ≡ first_named l.own l.name
