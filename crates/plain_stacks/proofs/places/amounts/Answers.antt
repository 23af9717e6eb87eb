use Rattle.plain_rows.proofs.Keys.{small_id}
use Rattle.plain_stacks.proofs.places.amounts.Goals as goal

pub amount-requires : goal.amount-requires
amount-requires c = small_id c.args.rows.now c.loop-row.row-index _ c.requires c.loop-row-test.true c.row-item.is
