use Rattle.std.proofs.Common.{◌≡◌, IfOk, cond, None, List, subst}
use Rattle.cell_value.specs.Datum.{Datum}
use Rattle.plain_facets.specs.Facets.{cells_of_copies, cells_of_fields}
use Rattle.vega_copies.specs.Facets.{crosses, divided_by, second_of_two}
use Rattle.vega_copies.proofs.CopyLemmas.{rows_are}
use Rattle.vega_copies.proofs.copies.cells_by.Goals as goal

pub returns-clause-copies : goal.returns-clause-copies
returns-clause-copies c =
    subst (λ (rows : List Datum). IfOk c.cells_over.result (λ found. found.copies ≡ cells_of_copies (divided_by c.args.sort.now c.args.facet.now) rows))
    (rows_are c.args.names.now c.args.facet.now c.as_slice.result.now c.in_ok-rows.rows _ c.as_slice.ensures c.in_ok-rows.ensures.read c.texts_in.ensures)
    c.cells_over.ensures.copies

pub returns-clause-across : goal.returns-clause-across
returns-clause-across c =
    subst (λ (rows : List Datum). IfOk c.cells_over.result (λ found. found.across
    ≡ cond (crosses c.args.facet.now) (second_of_two (cells_of_fields (divided_by c.args.sort.now c.args.facet.now) rows)) None))
    (rows_are c.args.names.now c.args.facet.now c.as_slice.result.now c.in_ok-rows.rows _ c.as_slice.ensures c.in_ok-rows.ensures.read c.texts_in.ensures)
    c.cells_over.ensures.across
