use Rattle.std.proofs.Common.{◌≡◌, cond, sym, ap, ◌∙◌, subst}
use Rattle.plain_facets.specs.Facets.{choices, cells_of_copies, cells_of_fields, cells_of_rows, AreDifferent}
use Rattle.plain_facets.specs.Rows.{data_of}
use Rattle.plain_facets.proofs.DifferentLemmas.{copies_are_different}
use Rattle.vega_copies.proofs.copies.cells_of.Goals as goal

pub returns-in_ok-choices-clause-different : goal.returns-in_ok-choices-clause-different
returns-in_ok-choices-clause-different c =
    let crossed : cells_of_copies c.args.d.now (data_of c.args.rows.now) ≡ choices (cells_of_fields c.args.d.now (data_of c.args.rows.now)) =
    ap (λ b. cond b (choices (cells_of_fields c.args.d.now (data_of c.args.rows.now))) (cells_of_rows c.args.d.now (data_of c.args.rows.now))) c.if-d.true in
    let made : c.in_ok-choices.field-0 ≡ choices (cells_of_fields c.args.d.now (data_of c.args.rows.now)) =
    c.in_ok-choices.ensures ∙ ap choices (c.as_slice-then-d.ensures ∙ c.in_ok-fields.ensures) in
    subst AreDifferent (crossed ∙ sym made) (copies_are_different c.args.d.now (data_of c.args.rows.now))
