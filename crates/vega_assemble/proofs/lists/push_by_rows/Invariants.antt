use Rattle.std.proofs.Common.{◌≡◌, ◌++◌, drop, map}
use Rattle.std.specs.List.{enumerate_from}
use Rattle.vega_assemble.specs.Lists.{column_list}
use Rattle.vega_assemble.specs.Ranked.{column_steps}
use Rattle.vega_assemble.proofs.lists.push_by_rows.Given as goal

abbrev pub invariant-loop-place : goal.invariant-loop-place
invariant-loop-place l =
    l.out ++ map (column_list l.stem l.scale (column_steps l.stem l.scale l.facets l.by)) (enumerate_from l.place (drop l.place l.columns))
    ≡ l.fn.out ++ map (column_list l.stem l.scale (column_steps l.stem l.scale l.facets l.by)) (enumerate_from 0 l.columns)
