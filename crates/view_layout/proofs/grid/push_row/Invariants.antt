use Rattle.std.proofs.Common.{◌≡◌, ◌++◌, take}
use Rattle.view_layout.specs.Grid.{row_corners}
use Rattle.view_layout.proofs.grid.push_row.Given as goal

abbrev pub invariant-loop-x : goal.invariant-loop-x
invariant-loop-x l = l.out ≡ l.initial.out ++ row_corners (take l.x-index l.xs) l.y
