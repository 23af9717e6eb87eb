use Rattle.std.proofs.Common.{◌≡◌, ◌++◌, [], ◌∷◌, drop, map}
use Rattle.std.specs.List.{enumerate_from}
use Rattle.vega_assemble.specs.Lists.{column_list}
use Rattle.vega_assemble.specs.Names.{cell_column}
use Rattle.vega_assemble.specs.Ranked.{rank_formula}
use Rattle.vega_assemble.specs.Ranks.{listed_rank}
use Rattle.expr_syntax.specs.declared.expr.Expr.TheVariants as expr
use Rattle.vega_assemble.proofs.lists.push_listed.Given as goal

abbrev pub invariant-loop-place : goal.invariant-loop-place
invariant-loop-place l =
    l.out ++ map (column_list l.stem l.scale (rank_formula l.stem (listed_rank (expr.Field (cell_column l.stem)) l.cells) ∷ []))
    (enumerate_from l.place (drop l.place l.columns))
    ≡ l.fn.out ++ map (column_list l.stem l.scale (rank_formula l.stem (listed_rank (expr.Field (cell_column l.stem)) l.cells) ∷ []))
    (enumerate_from 0 l.columns)
