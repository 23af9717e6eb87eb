use Rattle.std.proofs.Common.{◌≡◌, drop}
use Rattle.data_rows.specs.inner.Header.{bad_column}
use Rattle.data_rows.proofs.csv_rows.bad_column.Given as goal

abbrev pub invariant-loop-i : goal.invariant-loop-i
invariant-loop-i l = bad_column (drop l.i l.columns) (drop l.i l.numbers) ≡ bad_column l.columns l.numbers
