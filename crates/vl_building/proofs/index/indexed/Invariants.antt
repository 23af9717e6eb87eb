use Rattle.std.proofs.Common.{◌≤◌, length, drop}
use Rattle.vl_building.specs.inner.Index.{IsIndexFrom}
use Rattle.vl_building.proofs.index.indexed.Given as goal

-- those from here on are found
abbrev pub invariant-loop-left : goal.invariant-loop-left
invariant-loop-left g l = record {
  within : l.left ≤ length l.all;
  found : IsIndexFrom g.F.Finding.finds l.index l.left (drop l.left l.all);
}

abbrev pub decreases-loop-left : goal.decreases-loop-left
decreases-loop-left g l = l.left
