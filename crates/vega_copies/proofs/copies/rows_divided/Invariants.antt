use Rattle.std.proofs.Common.{◌≡◌, ◌++◌, flat_map, drop}
use Rattle.plain_facets.specs.Rows.{data_of, HaveIds}
use Rattle.vega_copies.specs.inner.Copied.{scope_at}
use Rattle.vega_copies.proofs.copies.rows_divided.Given as goal

abbrev pub invariant-loop-list : goal.invariant-loop-list
invariant-loop-list l = record {
  read : data_of l.rows ++ flat_map (scope_at l.names) (drop l.list-index l.lists) ≡ flat_map (scope_at l.names) l.lists;
  ids : HaveIds l.rows;
}
