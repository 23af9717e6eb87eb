use Rattle.plain_orders.proofs.ListedLemmas.{id_listed}
use Rattle.plain_orders.proofs.listed.entries_behind.Goals as goal

pub entry_of-requires : goal.entry_of-requires
entry_of-requires c = id_listed c.args.rows.now c.loop-place.place _ c.requires c.loop-place-test.true c.index-rows-place.is
