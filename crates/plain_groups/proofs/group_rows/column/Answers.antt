use Rattle.plain_rows.proofs.Keys.{small_id}
use Rattle.plain_groups.proofs.group_rows.column.Goals as goal

pub read_by-requires : goal.read_by-requires
read_by-requires c =
    small_id c.args.rows.now _ c.index-rows-place.result c.requires.rows
    (c.requires.within c.loop-place.place-index 0 c.loop-place-test.true) c.index-rows-place.is
