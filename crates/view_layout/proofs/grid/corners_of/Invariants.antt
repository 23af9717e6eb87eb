use Rattle.std.proofs.Common.{◌≡◌, take}
use Rattle.view_layout.specs.Grid.{corners_of}
use Rattle.view_layout.proofs.grid.corners_of.Given as goal

abbrev pub invariant-loop-y : goal.invariant-loop-y
invariant-loop-y l = l.out ≡ corners_of l.xs (take l.y-index l.ys)
