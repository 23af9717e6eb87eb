use Rattle.vl_compose.proofs.UnitLemmas.{view_more}
use Rattle.vl_compose.proofs.views.views_among.Goals as goal

pub loop-unit-preserved : goal.loop-unit-preserved
loop-unit-preserved c = view_more _ _ _ _ _ _ _ c.loop-unit-test.true c.unit-item.is c.in_ok-unit_view.ensures c.in_ok-push.ensures.ok c.loop-unit.invariant
