use Rattle.std.proofs.Common.{◌≡◌, ◌++◌, drop}
use Rattle.std.specs.List.{flat_map}
use Rattle.vega_assemble.specs.Keys.{lists_of_grid}
use Rattle.vega_assemble.proofs.assembled.push_grids.Given as goal

abbrev pub invariant-loop-grid : goal.invariant-loop-grid
invariant-loop-grid l =
    l.out ++ flat_map (lists_of_grid l.stem) (drop l.grid-index l.grids) ≡ l.fn.out ++ flat_map (lists_of_grid l.stem) l.grids
