use Rattle.plain_rows.proofs.Keys.{small_id}
use Rattle.plain_rows.proofs.lookups.looked_up.Goals as goal

pub taken_by-requires-clause-id : goal.taken_by-requires-clause-id
taken_by-requires-clause-id c = small_id c.args.rows.now c.loop-row.row-index _ c.requires.rows c.loop-row-test.true c.row-item.is
