use Rattle.data_rows.proofs.KindLemmas.{one_kind}
use Rattle.data_rows.proofs.kinds.by_name.Goals as goal

pub loop-entry-preserved : goal.loop-entry-preserved
loop-entry-preserved c =
    one_kind c.loop-entry.kinds c.insert.new.self c.args.parse.now c.loop-entry.entry-index c.entry-item.result c.as_str.result.now _
    c.loop-entry-test.true c.entry-item.is c.as_str.ensures c.in_ok-insert.ensures.updates c.loop-entry.invariant
