use Rattle.std.proofs.Common.{◌≡◌, ◌++◌, drop}
use Rattle.std.specs.List.{flat_map}
use Rattle.vega_assemble.specs.Lists.{names_round}
use Rattle.vega_assemble.proofs.lists.names_to.Given as goal

abbrev pub invariant-loop-grid : goal.invariant-loop-grid
invariant-loop-grid l =
    l.out ++ flat_map (names_round l.unit l.holder) (drop l.grid-index l.grids) ≡ flat_map (names_round l.unit l.holder) l.grids
