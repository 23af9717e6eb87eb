use Rattle.std.proofs.Common.{◌≡◌, IfOk, cond, None, subst}
use Rattle.plain_facets.specs.declared.copies.DividedBy.{DividedBy}
use Rattle.plain_facets.specs.Facets.{cells_of_copies, cells_of_fields}
use Rattle.plain_facets.specs.Rows.{data_of}
use Rattle.vega_copies.specs.Facets.{second_of_two}
use Rattle.vega_copies.proofs.copies.cells_over.Goals as goal

pub returns-clause-copies : goal.returns-clause-copies
returns-clause-copies c =
    subst (λ (d : DividedBy). IfOk c.cells_of.result (λ found. found.copies ≡ cells_of_copies d (data_of c.args.rows.now)))
    c.in_ok-d.ensures c.cells_of.ensures.copies

pub returns-clause-across : goal.returns-clause-across
returns-clause-across c =
    subst (λ (d : DividedBy). IfOk c.cells_of.result (λ found. found.across
    ≡ cond d.crosses (second_of_two (cells_of_fields d (data_of c.args.rows.now))) None))
    c.in_ok-d.ensures c.cells_of.ensures.across
