use Rattle.std.proofs.Common.{◌≡◌, ◌++◌, drop}
use Rattle.std.specs.List.{flat_map}
use Rattle.vega_assemble.specs.Mentioned.{in_column}
use Rattle.vega_assemble.specs.inner.Lent.{lent}
use Rattle.vega_assemble.proofs.mentioned.push_columns.Given as goal

abbrev pub invariant-loop-column : goal.invariant-loop-column
invariant-loop-column l =
    lent l.out ++ flat_map in_column (drop l.column-index l.columns) ≡ lent l.fn.out ++ flat_map in_column l.columns
