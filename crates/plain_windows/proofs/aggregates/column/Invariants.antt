use Rattle.std.proofs.Common.{◌≡◌, ◌++◌, map, drop}
use Rattle.cell_value.specs.Datum.{Datum, datum_of}
use Rattle.plain_groups.specs.GroupRows.{read_by}
use Rattle.plain_orders.specs.Partitions.{data_at}
use Rattle.plain_windows.proofs.aggregates.column.Given as goal

abbrev pub invariant-loop-place : goal.invariant-loop-place
invariant-loop-place l =
    l.cells ++ map (λ (other : Datum). read_by l.op other.cell) (data_at (map datum_of l.rows) (drop l.place-index l.places))
    ≡ map (λ (other : Datum). read_by l.op other.cell) (data_at (map datum_of l.rows) l.places)
