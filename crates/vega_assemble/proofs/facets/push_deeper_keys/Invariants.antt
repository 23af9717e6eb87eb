use Rattle.std.proofs.Common.{◌≡◌, ◌++◌, drop}
use Rattle.std.specs.List.{flat_map}
use Rattle.vega_assemble.specs.Facets.{keys_inside, deeper, grids_inside}
use Rattle.vega_assemble.proofs.facets.push_deeper_keys.Given as goal

abbrev pub invariant-loop-grid : goal.invariant-loop-grid
invariant-loop-grid l =
    l.out ++ flat_map (keys_inside l.stem) (deeper l.outer.number (grids_inside (drop l.grid-index l.grids) l.outer l.parts))
    ≡ l.fn.out ++ flat_map (keys_inside l.stem) (deeper l.outer.number (grids_inside l.grids l.outer l.parts))
