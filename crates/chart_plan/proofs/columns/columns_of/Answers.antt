use Rattle.chart_plan.proofs.LoopLemmas.{one_flat}
use Rattle.chart_plan.proofs.columns.columns_of.Goals as goal

pub loop-unit-preserved : goal.loop-unit-preserved
loop-unit-preserved c =
    one_flat _ _ c.args.units.now c.loop-unit.unit-index _ c.loop-unit.out _ _ c.loop-unit-test.true c.unit-item.is
    c.in_ok-push_columns_in.ensures c.loop-unit.invariant
