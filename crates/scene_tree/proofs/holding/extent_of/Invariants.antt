use Rattle.std.proofs.Common.{◌≡◌, take}
use Rattle.std.specs.List.{filter_map}
use Rattle.scene_tree.specs.Hits.{extent}
use Rattle.scene_tree.specs.inner.Extents.{coordinate}
use Rattle.scene_tree.proofs.holding.extent_of.Given as goal

abbrev pub invariant-loop-point : goal.invariant-loop-point
invariant-loop-point l = l.ends ≡ extent (filter_map (coordinate l.axis) (take l.point-index l.points))
