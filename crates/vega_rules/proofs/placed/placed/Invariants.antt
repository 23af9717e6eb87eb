use Rattle.std.proofs.Common.{◌≤◌, length, drop}
use Rattle.vega_rules.specs.inner.Placed.{IsPlacedFrom}
use Rattle.vega_rules.proofs.placed.placed.Given as goal

-- the parts from here on are found
abbrev pub invariant-loop-left : goal.invariant-loop-left
invariant-loop-left l = record {
  within : l.left ≤ length l.parts;
  finds : IsPlacedFrom l.places l.left (drop l.left l.parts);
}

abbrev pub decreases-loop-left : goal.decreases-loop-left
decreases-loop-left l = l.left
