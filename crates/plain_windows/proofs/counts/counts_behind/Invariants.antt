use Rattle.std.proofs.Common.{◌≡◌, ◌+◌, ◌<◌, ◌≤◌, ◌∷◌, ◌++◌, map, drop, length}
use Rattle.cell_value.specs.Datum.{datum_of}
use Rattle.plain_orders.specs.Partitions.{datum_at, data_at}
use Rattle.plain_windows.specs.Frames.{are_peers}
use Rattle.plain_windows.specs.inner.Views.{counts_behind}
use Rattle.plain_windows.proofs.counts.counts_behind.Given as goal

abbrev pub invariant-loop-y : goal.invariant-loop-y
invariant-loop-y l = record {
  filled : l.found
      ++ counts_behind (are_peers l.sort) (datum_at (map datum_of l.rows) l.x) l.n (data_at (map datum_of l.rows) (drop l.y-index l.others))
      ≡ 0 ∷ counts_behind (are_peers l.sort) (datum_at (map datum_of l.rows) l.first) 1 (data_at (map datum_of l.rows) l.others);
  within : l.x < length l.rows;
  few : l.n ≤ l.y-index + 1;
}
