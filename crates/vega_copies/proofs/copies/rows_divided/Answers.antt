use Rattle.plain_facets.specs.Rows.{data_of}
use Rattle.vega_copies.specs.inner.Copied.{scope_at}
use Rattle.vega_copies.proofs.CopyLemmas.{divided_more}
use Rattle.vega_copies.proofs.copies.rows_divided.Goals as goal

pub loop-list-preserved : goal.loop-list-preserved
loop-list-preserved c = record {
  read = divided_more (scope_at c.args.names.now) c.args.lists.now c.loop-list.list-index c.list-item.result (data_of c.loop-list.rows) _ _
      c.loop-list-test.true c.list-item.is c.in_ok-push_listed.ensures.read c.loop-list.invariant.read;
  ids = c.in_ok-push_listed.ensures.ids;
}
