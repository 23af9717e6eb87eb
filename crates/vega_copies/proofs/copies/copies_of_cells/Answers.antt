use Rattle.std.proofs.Common.{◌≡◌, IfOk, List, map, ap, ◌∙◌, subst}
use Rattle.plain_facets.specs.Rows.{data_of}
use Rattle.vega_copies.specs.Facets.{Copy}
use Rattle.vega_copies.specs.inner.Copied.{copy_seen}
use Rattle.vega_copies.proofs.CopyLemmas.{copies_are}
use Rattle.vega_copies.proofs.copies.copies_of_cells.Goals as goal

pub returns : goal.returns
returns c =
    subst (λ (seen : List Copy). IfOk c.copies_with-copies.result (λ copies. map copy_seen copies ≡ seen))
    (copies_are c.args.names.now c.args.facet.now c.args.cells.now c.as_slice-fields.result.now c.texts_in.result.now c.texts_in-lists.result.now
    c.as_slice.result.now c.as_slice-fields.ensures c.texts_in.ensures c.texts_in-lists.ensures
    (ap (map (map data_of)) c.as_slice.ensures ∙ c.in_ok-tables.ensures))
    c.copies_with-copies.ensures
