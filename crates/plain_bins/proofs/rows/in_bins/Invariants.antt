use Rattle.std.proofs.Common.{◌≡◌, take}
use Rattle.cell_value.specs.Datum.{cell_at}
use Rattle.plain_rows.specs.Calculations.{with_cell}
use Rattle.plain_bins.specs.Binned.{in_bins}
use Rattle.plain_bins.proofs.rows.in_bins.Given as goal

abbrev pub invariant-loop-row : goal.invariant-loop-row
invariant-loop-row l = l.out ≡ in_bins cell_at with_cell l.b l.bins (take l.row-index l.rows)
