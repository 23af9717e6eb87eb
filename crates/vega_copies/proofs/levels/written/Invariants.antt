use Rattle.std.proofs.Common.{◌≡◌, ◌++◌, drop, flat_map}
use Rattle.vega_copies.specs.Scopes.{written_here}
use Rattle.vega_copies.proofs.levels.written.Given as goal

abbrev pub invariant-loop-signal : goal.invariant-loop-signal
invariant-loop-signal l = l.out ++ flat_map written_here (drop l.signal-index l.signals) ≡ flat_map written_here l.signals
