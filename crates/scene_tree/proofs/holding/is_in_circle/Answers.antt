use Rattle.std.proofs.Common.{◌-ℤ◌}
use Rattle.scene_tree.proofs.SquareLemmas.{circle_by_sizes}
use Rattle.scene_tree.proofs.holding.is_in_circle.Goals as goal

pub returns : goal.returns
returns c =
    circle_by_sizes (c.args.x -ℤ c.args.cx) (c.args.y -ℤ c.args.cy) c.args.r _ _ _ _ c.distance-across.ensures.value c.distance-down.ensures.value
    c.size-radius.ensures.value c.is_within_radius.ensures
