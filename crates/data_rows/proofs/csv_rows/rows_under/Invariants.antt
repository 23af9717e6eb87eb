use Rattle.std.proofs.Common.{◌≡◌, map}
use Rattle.data_rows.specs.Outcome.{all_rows}
use Rattle.data_rows.specs.CsvRows.{record_row}
use Rattle.data_rows.specs.inner.Ahead.{rows_then}
use Rattle.data_rows.specs.inner.Records.{left_of, IsReading}
use Rattle.data_rows.proofs.csv_rows.rows_under.Given as goal

abbrev pub invariant-loop-number : goal.invariant-loop-number
invariant-loop-number l = record {
  reading : IsReading l.reader;
  rows : rows_then l.rows (all_rows l.number (map (record_row l.header.columns) (left_of l.reader)))
      ≡ all_rows 0 (map (record_row l.header.columns) (left_of l.fn.reader));
}
