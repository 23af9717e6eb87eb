use Rattle.scene_tree.specs.inner.Extents.{coordinate}
use Rattle.scene_tree.proofs.ExtentLemmas.{one_more}
use Rattle.scene_tree.proofs.holding.extent_of.Goals as goal

pub loop-point-preserved : goal.loop-point-preserved
loop-point-preserved c =
    one_more (coordinate c.args.axis) c.args.points.now c.loop-point.point-index c.point-item.result c.coordinate.result c.loop-point.ends
    c.widened-ends.result c.loop-point-test.true c.point-item.is c.coordinate.ensures c.loop-point.invariant c.widened-ends.ensures
