use Rattle.std.proofs.Common.{map}
use Rattle.plain_facets.specs.Rows.{data_of}
use Rattle.vega_copies.specs.inner.Copied.{parts_read}
use Rattle.vega_copies.proofs.CopyLemmas.{shown_more}
use Rattle.vega_copies.proofs.copies.all_parts_named.Goals as goal

pub loop-list-preserved : goal.loop-list-preserved
loop-list-preserved c =
    shown_more (parts_read c.args.names.now c.args.fields.now c.args.copies.now) c.args.lists.now c.loop-list.list-index c.list-item.result
    (map (map data_of) c.loop-list.tables) _ _ c.loop-list-test.true c.list-item.is c.in_ok-push_parts.ensures c.loop-list.invariant
