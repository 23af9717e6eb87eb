use Rattle.vl_compose.proofs.UnitLemmas.{homed_more}
use Rattle.vl_compose.proofs.groups.homed_for.Goals as goal

pub loop-unit-preserved : goal.loop-unit-preserved
loop-unit-preserved c = homed_more c.args.code c.args.units.now _ _ _ _ _ c.loop-unit-test.true c.unit-item.is c.in_ok-push_homed.ensures c.loop-unit.invariant
