use Rattle.std.proofs.Common.{◌≡◌, ◌++◌, map, drop}
use Rattle.std.specs.List.{enumerate_from}
use Rattle.plain_facets.specs.inner.Ranks.{column_of}
use Rattle.plain_facets.proofs.ranks.columns_of.Given as goal

abbrev pub invariant-loop-at : goal.invariant-loop-at
invariant-loop-at l =
    l.columns ++ map (column_of l.keys) (enumerate_from l.at (drop l.at l.fields)) ≡ map (column_of l.keys) (enumerate_from 0 l.fields)
