use Rattle.plain_rows.proofs.Keys.{small_id}
use Rattle.plain_windows.proofs.peers.row_in.Goals as goal

pub returns-clause-id : goal.returns-clause-id
returns-clause-id c = small_id c.args.rows.now _ c.index-rows-place.result c.requires.rows c.requires.within c.index-rows-place.is
