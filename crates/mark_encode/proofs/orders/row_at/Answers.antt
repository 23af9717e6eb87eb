use Rattle.mark_encode.proofs.RowLemmas.{row_there, id_there}
use Rattle.mark_encode.proofs.orders.row_at.Goals as goal

pub returns : goal.returns
returns c = record {
  reads = row_there c.args.rows.now c.args.place _ c.requires.place c.index-rows-place.is;
  id = id_there c.args.rows.now c.args.place _ c.requires.rows c.requires.place c.index-rows-place.is;
}
