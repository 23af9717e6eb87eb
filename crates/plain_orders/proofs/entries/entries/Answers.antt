use Rattle.plain_rows.proofs.Keys.{small_id}
use Rattle.plain_orders.proofs.entries.entries.Goals as goal

pub entry_of-requires : goal.entry_of-requires
entry_of-requires c = small_id c.args.rows.now c.loop-place.place _ c.requires c.loop-place-test.true c.index-rows-place.is
