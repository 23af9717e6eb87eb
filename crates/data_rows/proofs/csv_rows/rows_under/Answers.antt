use Rattle.std.proofs.Common.{◌+◌, map, ap, ◌∙◌}
use Rattle.csv.specs.Records.{fields_of}
use Rattle.data_rows.specs.Outcome.{all_rows}
use Rattle.data_rows.specs.CsvRows.{record_row}
use Rattle.data_rows.specs.inner.Ahead.{rows_then}
use Rattle.data_rows.specs.inner.Records.{left_of}
use Rattle.data_rows.proofs.StepLemmas.{one_row, no_record_row}
use Rattle.data_rows.proofs.csv_rows.rows_under.Goals as goal

pub returns-in-Err : goal.returns-in-Err
returns-in-Err c =
    rw c.stop.ensures (no_record_row c.args.header.now.columns c.loop-number.number (left_of c.loop-number.reader)
    c.loop-number.rows _ c.in-Err.error c.in-Err.ensures.text c.loop-number.invariant.rows)

pub loop-number-preserved : goal.loop-number-preserved
loop-number-preserved c =
    let found = rw c.in-Ok-true.field-0-test at c.in-Ok-true.ensures.found in
    record {
      reading = found.2;
      rows =
          ap (λ rows. rows_then rows (all_rows (c.loop-number.number + 1)
          (map (record_row c.args.header.now.columns) (left_of c.next_record.new.reader)))) c.in_ok-push-in-Ok.ensures.ok
          ∙ one_row (record_row c.args.header.now.columns) c.loop-number.number (left_of c.loop-number.reader)
          (fields_of c.next_record.new.held) (left_of c.next_record.new.reader)
          c.loop-number.rows c.in-Ok.row _ found.0 c.in-Ok.ensures c.loop-number.invariant.rows;
    }
