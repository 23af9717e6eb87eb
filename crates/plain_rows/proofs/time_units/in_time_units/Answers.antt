use Rattle.plain_rows.proofs.Keys.{small_id}
use Rattle.plain_rows.proofs.time_units.in_time_units.Goals as goal

pub with_unit-requires : goal.with_unit-requires
with_unit-requires c = small_id c.args.rows.now c.loop-row.row-index _ c.requires c.loop-row-test.true c.row-item.is
