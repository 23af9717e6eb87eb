use Rattle.std.proofs.Common.{◌≡◌, map, take}
use Rattle.view_layout.specs.Layout.{Cell, cell_of}
use Rattle.view_layout.specs.inner.Plans.{places_of}
use Rattle.view_layout.proofs.grid.+arranging.Given as goal

abbrev pub invariant-arrange_each-loop-tree : goal.invariant-arrange_each-loop-tree
invariant-arrange_each-loop-tree l = record {
  across : l.across ≡ map (λ (cell : Cell). cell.across) (map cell_of (take l.tree-index l.trees));
  down : l.down ≡ map (λ (cell : Cell). cell.down) (map cell_of (take l.tree-index l.trees));
  places : map places_of l.plans ≡ map (λ (cell : Cell). cell.places) (map cell_of (take l.tree-index l.trees));
}
