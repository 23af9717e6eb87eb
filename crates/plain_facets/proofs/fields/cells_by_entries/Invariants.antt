use Rattle.std.proofs.Common.{◌≡◌, ◌++◌, map, drop}
use Rattle.std.specs.Prelude.{slice_get}
use Rattle.std.specs.List.{enumerate_from}
use Rattle.plain_facets.specs.Facets.{cells_of_field}
use Rattle.plain_facets.specs.Rows.{data_of}
use Rattle.plain_facets.proofs.fields.cells_by_entries.Given as goal

abbrev pub invariant-loop-at : goal.invariant-loop-at
invariant-loop-at l =
    l.found ++ map (λ field. cells_of_field (data_of l.rows) (slice_get l.sort field.0) field.1) (enumerate_from l.at (drop l.at l.fields))
    ≡ map (λ field. cells_of_field (data_of l.rows) (slice_get l.sort field.0) field.1) (enumerate_from 0 l.fields)
