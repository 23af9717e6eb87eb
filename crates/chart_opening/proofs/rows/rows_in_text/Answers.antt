use Rattle.chart_opening.proofs.RowLemmas.{text_rows, text_row, no_text}
use Rattle.chart_opening.proofs.rows.rows_in_text.Goals as goal

pub returns-in-Ok : goal.returns-in-Ok
returns-in-Ok c = text_rows c.args.set.now c.args.name.now c.args.bytes.now c.in_ok-kinds.kinds c.in_ok-kinds.ensures c.in-Ok.rows c.in-Ok.ensures

pub returns-in-Err-Fault : goal.returns-in-Err-Fault
returns-in-Err-Fault c =
    text_row c.args.set.now c.args.name.now c.args.bytes.now c.in_ok-kinds.kinds c.in_ok-kinds.ensures c.in-Err-Fault.field-0 c.in-Err-Fault.row
    c.in-Err-Fault.field c.in_ok-bad_row-in-Err-Fault.field-0 c.in-Err-Fault.field-0-is c.in_ok-bad_row-in-Err-Fault.ensures c.in-Err-Fault.ensures

pub returns-in-Err-Json : goal.returns-in-Err-Json
returns-in-Err-Json c =
    no_text c.args.set.now c.args.name.now c.in_ok-of-in-Err-Json.field-0 c.args.bytes.now c.in_ok-kinds.kinds c.in-Err-Json.field-0 c.in-Err-Json.at
    c.in-Err-Json.field-0-is c.in_ok-of-in-Err-Json.ensures c.in-Err-Json.ensures
