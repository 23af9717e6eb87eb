use Rattle.std.specs.Prelude.{slice_get}
use Rattle.plain_facets.specs.Facets.{cells_of_field}
use Rattle.plain_facets.specs.Rows.{data_of}
use Rattle.plain_facets.proofs.ListLemmas.{numbered_more}
use Rattle.plain_facets.proofs.fields.cells_by_entries.Goals as goal

pub loop-at-preserved : goal.loop-at-preserved
loop-at-preserved c =
    numbered_more (λ field. cells_of_field (data_of c.args.rows.now) (slice_get c.args.sort.now field.0) field.1) c.args.fields.now c.loop-at.at
    c.index-fields-at.result _ _ _ _ c.loop-at-test.true c.index-fields-at.is c.in_ok-cells_of_field.ensures c.in_ok-push.ensures.ok c.loop-at.invariant
