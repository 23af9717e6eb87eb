use Rattle.std.proofs.Common.{◌≤◌, length, drop}
use Rattle.vl_names.specs.inner.Index.{IsIndexFrom}
use Rattle.vl_names.proofs.index.indexed.Given as goal

-- those from here on are found
abbrev pub invariant-loop-left : goal.invariant-loop-left
invariant-loop-left l = record {
  within : l.left ≤ length l.names;
  found : IsIndexFrom l.index l.left (drop l.left l.names);
}

abbrev pub decreases-loop-left : goal.decreases-loop-left
decreases-loop-left l = l.left
