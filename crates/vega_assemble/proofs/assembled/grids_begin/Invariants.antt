use Rattle.std.proofs.Common.{◌≡◌, drop}
use Rattle.std.specs.List.{list_any}
use Rattle.vega_assemble.specs.Keys.{grid_begins}
use Rattle.vega_assemble.proofs.assembled.grids_begin.Given as goal

abbrev pub invariant-loop-grid : goal.invariant-loop-grid
invariant-loop-grid l =
    list_any (grid_begins l.unit) (drop l.grid-index l.grids) ≡ list_any (grid_begins l.unit) l.grids
