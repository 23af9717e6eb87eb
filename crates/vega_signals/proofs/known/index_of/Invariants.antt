use Rattle.std.proofs.Common.{◌≤◌, length, drop}
use Rattle.vega_signals.specs.inner.Known.{IsIndex}
use Rattle.vega_signals.proofs.known.index_of.Given as goal

-- the signals from here on are found
abbrev pub invariant-loop-left : goal.invariant-loop-left
invariant-loop-left l = record {
  within : l.left ≤ length l.own;
  finds : IsIndex (drop l.left l.own) l.index;
}

abbrev pub decreases-loop-left : goal.decreases-loop-left
decreases-loop-left l = l.left
