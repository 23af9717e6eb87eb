use Rattle.std.proofs.Common.{◌≡◌, take, Some}
use Rattle.cell_value.specs.Datum.{cell_at}
use Rattle.plain_rows.specs.Filters.{filtered}
use Rattle.plain_rows.proofs.filters.kept.Given as goal

abbrev pub invariant-loop-row : goal.invariant-loop-row
invariant-loop-row g l = filtered cell_at (g.P.ParamReader.values l.params) l.test (take l.row-index l.rows) ≡ Some l.out
