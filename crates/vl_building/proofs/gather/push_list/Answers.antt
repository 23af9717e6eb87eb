use Rattle.vl_building.specs.Gather.{param_at}
use Rattle.vl_building.proofs.MadeLemmas.{one_numbered}
use Rattle.vl_building.proofs.gather.push_list.Goals as goal

pub loop-number-preserved : goal.loop-number-preserved
loop-number-preserved c =
    one_numbered (param_at c.args.place.now) c.args.items.now c.loop-number.number c.index-items-number.result c.loop-number.out _ _
    c.loop-number-test.true c.index-items-number.is (c.in_ok-push_made.ensures _ c.param_at.ensures) c.loop-number.invariant
