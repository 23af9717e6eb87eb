use Rattle.std.proofs.Common.{◌≡◌, take, drop, map}
use Rattle.fixed_num.specs.Ranges.{all_found}
use Rattle.fixed_num.proofs.FoundLemmas.{after}
use Rattle.scene_tree.specs.Moves.{moved_point}
use Rattle.scene_tree.proofs.moves.moved_points.Given as goal

abbrev pub invariant-loop-point : goal.invariant-loop-point
invariant-loop-point l =
    after (take l.point-index l.point-items) (all_found (map (moved_point l.dx l.dy) (drop l.point-index l.point-items)))
    ≡ all_found (map (moved_point l.dx l.dy) l.fn.points)
