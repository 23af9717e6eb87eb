use Rattle.plain_rows.proofs.Keys.{small_id}
use Rattle.plain_bins.proofs.rows.in_bins.Goals as goal

pub with_bin-requires-clause-id : goal.with_bin-requires-clause-id
with_bin-requires-clause-id c = small_id c.args.rows.now c.loop-row.row-index _ c.requires.rows c.loop-row-test.true c.row-item.is
