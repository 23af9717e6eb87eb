use Rattle.std.proofs.Common.{◌≤◌, length, drop}
use Rattle.vega_rules.specs.inner.Index.{IsIndexFrom}
use Rattle.vega_rules.proofs.index.indexed.Given as goal

-- the parts from here on are found
abbrev pub invariant-loop-left : goal.invariant-loop-left
invariant-loop-left l = record {
  within : l.left ≤ length l.parts;
  finds : IsIndexFrom l.how l.index l.left (drop l.left l.parts);
}

abbrev pub decreases-loop-left : goal.decreases-loop-left
decreases-loop-left l = l.left
