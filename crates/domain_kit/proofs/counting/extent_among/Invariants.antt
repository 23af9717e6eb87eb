use Rattle.std.proofs.Common.{◌≡◌, ◌≤ℤ◌, drop, IfSome, filter_map}
use Rattle.domain_kit.specs.Counting.{counted, extent_among}
use Rattle.domain_kit.specs.inner.Extents.{extent_behind}
use Rattle.domain_kit.proofs.counting.extent_among.Given as goal

abbrev pub invariant-loop-cell : goal.invariant-loop-cell
invariant-loop-cell l = record {
  value : extent_behind l.ends (filter_map (counted l.counting) (drop l.cell-index l.cells)) ≡ extent_among l.counting l.cells;
  ordered : IfSome l.ends (λ ends. ends.0 ≤ℤ ends.1);
}
