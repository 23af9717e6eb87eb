use Rattle.std.proofs.Common.{◌≡◌, drop}
use Rattle.vega_drawing.specs.inner.Levels.{signal_named}
use Rattle.vega_drawing.proofs.values.signal_named.Given as goal

abbrev pub invariant-loop-signal : goal.invariant-loop-signal
invariant-loop-signal l = signal_named (drop l.signal-index l.signals) l.name ≡ signal_named l.signals l.name
