use Rattle.std.proofs.Common.{◌≡◌, ◌++◌, drop}
use Rattle.csv.specs.Records.{fields_of}
use Rattle.data_rows.specs.inner.Header.{cells_from}
use Rattle.data_rows.proofs.csv_rows.cells_from.Given as goal

abbrev pub invariant-loop-entry : goal.invariant-loop-entry
invariant-loop-entry l =
    l.cells.items ++ cells_from (fields_of l.fields) l.numbers (drop l.entry-index l.kept) ≡ cells_from (fields_of l.fields) l.numbers l.kept
