use Rattle.std.proofs.Common.{arith, map}
use Rattle.vega_scales.proofs.ColumnLemmas.{small_id, within, same_row, past_all, entry_more, entries_all}
use Rattle.vega_scales.proofs.columns.push_entries.Goals as goal

pub entry_of-requires : goal.entry_of-requires
entry_of-requires c = small_id c.args.rows.now c.loop-row.row-index c.row-item.result c.requires c.loop-row-test.true c.row-item.is

pub loop-row-preserved : goal.loop-row-preserved
loop-row-preserved c =
    entry_more c.args.key.now c.args.value.now (map (λ row. row.now) c.args.rows.now) c.loop-row.row-index _ c.in_ok-entry_of.field-0
    c.loop-row.out _ _ (within c.args.rows.now c.loop-row.row-index c.loop-row-test.true)
    (same_row c.args.rows.now c.loop-row.row-index c.row-item.result c.loop-row-test.true c.row-item.is)
    c.in_ok-entry_of.ensures c.in_ok-push.ensures.ok c.loop-row.invariant

pub returns : goal.returns
returns c =
    entries_all c.args.key.now c.args.value.now (map (λ row. row.now) c.args.rows.now) c.loop-row.row-index c.loop-row.out _
    (past_all c.args.rows.now c.loop-row.row-index (omega arith)) c.loop-row.invariant
