use Rattle.std.proofs.Common.{◌≡◌, drop}
use Rattle.std.specs.List.{list_any}
use Rattle.std.specs.Prelude.{filter}
use Rattle.vega_assemble.specs.Facets.{is_number, is_grid_inside}
use Rattle.vega_assemble.proofs.facets.holds.Given as goal

abbrev pub invariant-loop-grid : goal.invariant-loop-grid
invariant-loop-grid l =
    list_any (is_number l.number) (filter (is_grid_inside l.outer l.parts) (drop l.grid-index l.grids))
    ≡ list_any (is_number l.number) (filter (is_grid_inside l.outer l.parts) l.grids)
