use Rattle.std.proofs.Common.{◌≡◌, map, take, zip, Some, get_or}
use Rattle.fixed_num.specs.Ranges.{all_found}
use Rattle.cell_value.specs.Datum.{datum_of}
use Rattle.plain_orders.specs.Partitions.{datum_at, data_at}
use Rattle.plain_windows.specs.inner.Views.{part, view_with, named_by}
use Rattle.plain_windows.proofs.windows.named_cells.Given as goal

abbrev pub invariant-loop-at : goal.invariant-loop-at
invariant-loop-at l =
    all_found (map (named_by (view_with l.sort (data_at (map datum_of l.rows) l.places)
    (datum_at (map datum_of l.rows) (get_or l.places l.rank 0)) l.rank (part l.frame (data_at (map datum_of l.rows) l.places))))
    (take l.at (zip l.ops l.params))) ≡ Some l.given
