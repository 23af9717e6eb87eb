use Rattle.std.proofs.Common.{◌∙◌, ap₂, map}
use Rattle.std.specs.Prelude.{slice_get}
use Rattle.std.specs.List.{enumerate_from}
use Rattle.plain_facets.specs.Facets.{cells_of_field}
use Rattle.plain_facets.specs.Rows.{data_of}
use Rattle.plain_facets.proofs.copies.cells_of_fields.Goals as goal

pub returns : goal.returns
returns c =
    c.in_ok-cells_by_entries.ensures
    ∙ ap₂ (λ sort fields. map (λ field. cells_of_field (data_of c.args.rows.now) (slice_get sort field.0) field.1) (enumerate_from 0 fields))
    c.entries.ensures c.as_slice-fields.ensures
