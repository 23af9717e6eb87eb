use Rattle.std.proofs.Common.{◌≡◌, IfOk, min, List, subst}
use Rattle.cell_value.specs.Datum.{Datum}
use Rattle.plain_facets.specs.Facets.{cells_with_rows, count_without_rows}
use Rattle.vega_copies.specs.Facets.{divided_by}
use Rattle.vega_copies.specs.inner.Counted.{most_counted}
use Rattle.vega_copies.proofs.CopyLemmas.{rows_are}
use Rattle.vega_copies.proofs.copies.counted_by.Goals as goal

pub returns-clause-with_rows : goal.returns-clause-with_rows
returns-clause-with_rows c =
    subst (λ (rows : List Datum). IfOk c.counted_over.result (λ found. found.with_rows
    ≡ cells_with_rows (divided_by c.args.sort.now c.args.facet.now) rows))
    (rows_are c.args.names.now c.args.facet.now c.as_slice.result.now c.in_ok-rows.rows _ c.as_slice.ensures c.in_ok-rows.ensures.read c.texts_in.ensures)
    c.counted_over.ensures.with_rows

pub returns-clause-without_rows : goal.returns-clause-without_rows
returns-clause-without_rows c =
    subst (λ (rows : List Datum). IfOk c.counted_over.result (λ found. found.without_rows
    ≡ min (count_without_rows (divided_by c.args.sort.now c.args.facet.now) rows) most_counted))
    (rows_are c.args.names.now c.args.facet.now c.as_slice.result.now c.in_ok-rows.rows _ c.as_slice.ensures c.in_ok-rows.ensures.read c.texts_in.ensures)
    c.counted_over.ensures.without_rows
