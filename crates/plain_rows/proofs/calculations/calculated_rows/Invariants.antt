use Rattle.std.proofs.Common.{◌≡◌, take, Some}
use Rattle.plain_rows.specs.Calculations.{calculated}
use Rattle.plain_rows.proofs.calculations.calculated_rows.Given as goal

abbrev pub invariant-loop-row : goal.invariant-loop-row
invariant-loop-row g l = calculated (g.P.ParamReader.values l.params) l.e l.name (take l.row-index l.rows) ≡ Some l.out
