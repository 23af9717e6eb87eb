use Rattle.std.proofs.Common.{◌≡◌, IfOk, min, subst}
use Rattle.plain_facets.specs.declared.copies.DividedBy.{DividedBy}
use Rattle.plain_facets.specs.Facets.{cells_with_rows, count_without_rows}
use Rattle.plain_facets.specs.Rows.{data_of}
use Rattle.vega_copies.specs.inner.Counted.{most_counted}
use Rattle.vega_copies.proofs.copies.counted_over.Goals as goal

pub returns-clause-with_rows : goal.returns-clause-with_rows
returns-clause-with_rows c =
    subst (λ (d : DividedBy). IfOk c.count_cells.result (λ found. found.with_rows ≡ cells_with_rows d (data_of c.args.rows.now)))
    c.in_ok-d.ensures c.count_cells.ensures.with_rows

pub returns-clause-without_rows : goal.returns-clause-without_rows
returns-clause-without_rows c =
    subst (λ (d : DividedBy). IfOk c.count_cells.result (λ found. found.without_rows
    ≡ min (count_without_rows d (data_of c.args.rows.now)) most_counted))
    c.in_ok-d.ensures c.count_cells.ensures.without_rows
