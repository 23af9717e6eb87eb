use Rattle.std.proofs.Common.{◌≡◌, take}
use Rattle.chart_opening.specs.Opening.{values_of}
use Rattle.chart_opening.proofs.states.values_of.Given as goal

abbrev pub invariant-loop-signal : goal.invariant-loop-signal
invariant-loop-signal l = l.values ≡ values_of (take l.signal-index l.signals)
