use Rattle.std.proofs.Common.{◌≡◌, ◌++◌, drop}
use Rattle.vega_signals.specs.Settling.{as_given}
use Rattle.vega_signals.proofs.rounds.as_given.Given as goal

abbrev pub invariant-loop-entry : goal.invariant-loop-entry
invariant-loop-entry l = l.copies ++ as_given (drop l.entry-index l.given) ≡ as_given l.given
