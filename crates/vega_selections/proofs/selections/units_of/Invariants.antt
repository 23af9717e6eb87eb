use Rattle.std.proofs.Common.{◌≡◌, ◌++◌, drop}
use Rattle.std.specs.Prelude.{filter_map}
use Rattle.std.specs.List.{enumerate_from}
use Rattle.vega_selections.specs.Selections.{unit_at, units_of}
use Rattle.vega_selections.proofs.selections.units_of.Given as goal

abbrev pub invariant-loop-at : goal.invariant-loop-at
invariant-loop-at l = l.out ++ filter_map (unit_at l.names) (enumerate_from l.at (drop l.at l.marks)) ≡ units_of l.marks l.names
