use Rattle.std.proofs.Common.{◌≡◌, ◌++◌, take, map}
use Rattle.vl_schema.specs.inner.Tables.{layout_of}
use Rattle.vl_schema.proofs.tables.push_layouts.Given as goal

abbrev pub invariant-loop-table : goal.invariant-loop-table
invariant-loop-table l = l.out ≡ l.fn.out ++ map layout_of (take l.table-index l.tables)
