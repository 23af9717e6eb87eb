use Rattle.std.proofs.Common.{◌≡◌, ◌++◌, drop, map}
use Rattle.std.specs.List.{enumerate_from}
use Rattle.vega_assemble.specs.Lists.{name_of_column}
use Rattle.vega_assemble.proofs.lists.names_of_columns.Given as goal

abbrev pub invariant-loop-place : goal.invariant-loop-place
invariant-loop-place l =
    l.out ++ map (name_of_column l.stem l.scale) (enumerate_from l.place (drop l.place l.columns))
    ≡ map (name_of_column l.stem l.scale) (enumerate_from 0 l.columns)
