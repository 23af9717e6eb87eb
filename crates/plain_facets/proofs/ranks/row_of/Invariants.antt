use Rattle.std.proofs.Common.{◌≡◌, ◌++◌, drop}
use Rattle.plain_facets.specs.inner.Ranks.{row_of}
use Rattle.plain_facets.proofs.ranks.row_of.Given as goal

abbrev pub invariant-loop-column : goal.invariant-loop-column
invariant-loop-column l = l.row.items ++ row_of (drop l.column-index l.columns) l.at ≡ row_of l.columns l.at
