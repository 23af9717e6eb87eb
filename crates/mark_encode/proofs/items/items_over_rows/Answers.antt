use Rattle.mark_encode.proofs.RowLemmas.{ids_listed}
use Rattle.mark_encode.proofs.items.items_over_rows.Goals as goal

pub items_over-requires : goal.items_over-requires
items_over-requires g c = ids_listed c.args.rows.now c.requires
