use Rattle.json_exact.specs.Values.{ahead}
use Rattle.data_rows.proofs.TextLemmas.{row_read}
use Rattle.data_rows.proofs.text_rows.push_row.Goals as goal

pub returns-clause-rows : goal.returns-clause-rows
returns-clause-rows c =
    row_read c.args.kinds.now.parse.now c.args.rows.now c.push.new.self c.in-Ok.row (ahead c.args.values) c.in-Ok-Some.field-0 c.in-Ok-Some.next
    c.in-Ok-Some.field-0-is c.in-Ok-Some.ensures.next c.in-Ok.ensures c.in_ok-push-in-Ok.ensures.ok
