use Rattle.vega_assemble.proofs.ViewLemmas.{one_unit}
use Rattle.vega_assemble.proofs.views.units_made.Goals as goal

pub loop-unit-preserved : goal.loop-unit-preserved
loop-unit-preserved c =
    one_unit c.args.stem.now c.args.p.now c.args.units.now c.loop-unit.unit-index _ c.loop-unit.out _ _ c.loop-unit-test.true c.in_ok-push_unit_at.ensures
    c.loop-unit.invariant
