use Rattle.mark_encode.proofs.RowLemmas.{reads_added, ids_added}
use Rattle.mark_encode.proofs.orders.push_row.Goals as goal

pub returns : goal.returns
returns c = record {
  reads = reads_added c.push.result c.args.found.now _ c.args.row c.push.ensures.ok;
  ids = ids_added c.push.result c.args.found.now _ c.args.row c.requires c.push.ensures.ok;
}
