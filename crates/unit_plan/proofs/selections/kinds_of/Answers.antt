use Rattle.unit_plan.proofs.KindLemmas.{one_kind}
use Rattle.unit_plan.proofs.selections.kinds_of.Goals as goal

pub loop-param-preserved : goal.loop-param-preserved
loop-param-preserved c =
    one_kind c.loop-param.kinds c.insert.new.self c.args.params.now c.loop-param.param-index c.param-item.result c.as_str.result.now c.is_select.result _
    c.loop-param-test.true c.param-item.is c.as_str.ensures c.is_select.ensures c.in_ok-insert.ensures.updates c.loop-param.invariant
