-- What helps operations over the rows of a partition.
use Rattle.std.specs.Prelude.{◌≡◌, ◌==◌, ◌<◌, ℕ, Some, List, map, length}
use Rattle.std.specs.List.{AllZip}
use Rattle.cell_value.specs.Datum.{Datum}
use Rattle.plain_rows.specs.declared.transforms.OpOf.{OpOf}
use Rattle.plain_rows.specs.declared.transforms.SortBy.{SortBy}
use Rattle.plain_rows.specs.declared.transforms.WindowOf.{WindowOf}
use Rattle.plain_groups.specs.Aggregates.{aggregate_of}
use Rattle.plain_groups.specs.GroupRows.{read_by}
use Rattle.plain_orders.specs.Partitions.{data_at}
use Rattle.plain_windows.specs.Frames.{are_peers}
use Rattle.plain_windows.specs.declared.aids.Aid.{Aid}
use Rattle.plain_windows.specs.declared.aids.Aid.TheVariants.{Nothing, Totals, Levels, Firsts, Whole, Peers}
use Rattle.plain_windows.specs.inner.Firsts.{AreFirsts}
use Rattle.plain_windows.specs.inner.Levels.{AreLevels, numbers_read}
use Rattle.plain_windows.specs.inner.Totals.{IsTotaled}
use Rattle.plain_windows.specs.inner.Views.{counts}

-- What helps an operation is right for the rows of a partition that stand in an order.
abbrev pub IsAid : List SortBy → List Datum → OpOf → Aid → Type 0
IsAid sort rows op Nothing = Unit {0}
IsAid sort rows op (Totals totals) = IsTotaled rows op totals
IsAid sort rows op (Levels levels) = AreLevels (op.op == 8) (numbers_read op rows) levels
IsAid sort rows op (Firsts counts) = (op.op ≡ 3) × AreFirsts (map (λ (other : Datum). read_by op other.cell) rows) counts
IsAid sort rows op (Whole cell) = aggregate_of op.op (map (λ (other : Datum). read_by op other.cell) rows) ≡ Some cell
IsAid sort rows op (Peers found) = found ≡ counts (are_peers sort) rows

-- What helps the operations of a window is right for the rows at places, where there are any.
abbrev pub AreAids : WindowOf → List Datum → List ℕ → List Aid → Type 0
AreAids w rows places aids = 0 < length places → AllZip (IsAid w.sort (data_at rows places)) w.ops aids
