use Rattle.std.proofs.Common.{◌≡◌, ◌++◌, drop}
use Rattle.std.specs.List.{flat_map, enumerate_from}
use Rattle.std.specs.Prelude.{filter}
use Rattle.vega_assemble.specs.Drags.{outer_lists}
use Rattle.vega_assemble.specs.Facets.{grids_inside}
use Rattle.vega_assemble.specs.Facets.{is_held}
use Rattle.vega_assemble.proofs.drags.outer_held.Given as goal

abbrev pub invariant-loop-number : goal.invariant-loop-number
invariant-loop-number l =
    l.out
    ++ flat_map (outer_lists l.stem l.selections) (filter (is_held (grids_inside l.grids l.outer l.parts)) (enumerate_from l.number (drop l.number l.scales)))
    ≡ flat_map (outer_lists l.stem l.selections) (filter (is_held (grids_inside l.grids l.outer l.parts)) (enumerate_from 0 l.scales))
