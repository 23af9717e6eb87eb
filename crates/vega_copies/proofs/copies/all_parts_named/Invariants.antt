use Rattle.std.proofs.Common.{◌≡◌, ◌++◌, map, drop}
use Rattle.plain_facets.specs.Rows.{data_of}
use Rattle.vega_copies.specs.inner.Copied.{parts_read}
use Rattle.vega_copies.proofs.copies.all_parts_named.Given as goal

abbrev pub invariant-loop-list : goal.invariant-loop-list
invariant-loop-list l =
    map (map data_of) l.tables ++ map (parts_read l.names l.fields l.copies) (drop l.list-index l.lists) ≡ map (parts_read l.names l.fields l.copies) l.lists
