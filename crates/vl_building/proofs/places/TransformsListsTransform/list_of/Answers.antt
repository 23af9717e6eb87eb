use Rattle.vl_building.specs.Views.{transform_at}
use Rattle.vl_building.specs.inner.Named.{shown}
use Rattle.vl_building.proofs.MadeLemmas.{one_numbered}
use Rattle.vl_building.proofs.places.TransformsListsTransform.list_of.Goals as goal

pub loop-number-preserved : goal.loop-number-preserved
loop-number-preserved c =
    one_numbered (transform_at (shown c.args.named.now) c.args.place.now) c.args.items.now c.loop-number.number c.index-items-number.result
    c.loop-number.transforms _ _ c.loop-number-test.true c.index-items-number.is (c.in_ok-push_made.ensures _ c.transform_at.ensures)
    c.loop-number.invariant
