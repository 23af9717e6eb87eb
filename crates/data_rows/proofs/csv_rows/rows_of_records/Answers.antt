use Rattle.std.proofs.Common.{Result, List, map, ap, subst, sym, ◌∙◌}
use Rattle.csv.specs.Records.{fields_of}
use Rattle.cell_value.specs.Row.{Cells}
use Rattle.data_rows.specs.Outcome.{Bad, GivesRows, all_rows}
use Rattle.data_rows.specs.CsvRows.{Column, record_row}
use Rattle.data_rows.specs.inner.Records.{left_of}
use Rattle.data_rows.proofs.StepLemmas.{header_read, no_header}
use Rattle.data_rows.proofs.csv_rows.rows_of_records.Goals as goal

pub returns-in-Ok-true : goal.returns-in-Ok-true
returns-in-Ok-true c =
    let found = rw c.in-Ok-true.field-0-test at c.in-Ok-true.ensures.found in
    let others = left_of c.next_record.new.reader in
    let gives : Result (List Cells) Bad → Type 0 = λ given. GivesRows c.rows_under.result given in
    subst gives
    (ap (λ (columns : List Column). all_rows 0 (map (record_row columns) others)) c.in_ok-header-in-Ok-true.ensures
    ∙ sym (header_read c.args.kinds.now.parse.now (left_of c.args.reader.now) (fields_of c.next_record.new.held) others found.0 found.1))
    c.rows_under.ensures

pub returns : goal.returns
returns c = rw c.stop.ensures (no_header c.args.kinds.now.parse.now (left_of c.args.reader.now) c.in-Err.error c.in-Err.ensures.text)
