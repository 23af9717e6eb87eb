use Rattle.std.proofs.Common.{◌≡◌, ◌++◌, drop}
use Rattle.csv.specs.Records.{fields_of}
use Rattle.data_rows.specs.CsvRows.{columns_of}
use Rattle.data_rows.proofs.header.columns_of.Given as goal

abbrev pub invariant-loop-i : goal.invariant-loop-i
invariant-loop-i l = l.columns ++ columns_of l.kinds.parse.now (drop l.i (fields_of l.header)) ≡ columns_of l.kinds.parse.now (fields_of l.header)
