use Rattle.std.proofs.Common.{◌≤◌, length, drop}
use Rattle.vl_names.specs.inner.First.{IsFirst}
use Rattle.vl_names.proofs.twice.firsts_of.Given as goal

-- those from here on are kept
abbrev pub invariant-loop-left : goal.invariant-loop-left
invariant-loop-left l = record {
  within : l.left ≤ length l.all;
  kept : IsFirst l.tree l.firsts (drop l.left l.all);
}

abbrev pub decreases-loop-left : goal.decreases-loop-left
decreases-loop-left l = l.left
