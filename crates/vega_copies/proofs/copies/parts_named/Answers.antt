use Rattle.std.proofs.Common.{◌≡◌, IfOk, List, map, ap, sym, ◌∙◌, subst}
use Rattle.cell_value.specs.Datum.{Datum}
use Rattle.plain_facets.specs.Facets.{part_of}
use Rattle.plain_facets.specs.Rows.{data_of, HaveIds}
use Rattle.vega_copies.proofs.copies.parts_named.Goals as goal

pub parts_of-requires-clause-ids : goal.parts_of-requires-clause-ids
parts_of-requires-clause-ids c = subst HaveIds (sym c.as_slice.ensures) c.in_ok-rows.ensures.ids

pub returns : goal.returns
returns c =
    subst (λ (read : List (List Datum)). IfOk c.parts_of.result (λ parts. map data_of parts ≡ read))
    (ap (λ rows. map (λ key. part_of c.args.fields.now key rows) c.args.copies.now) (ap data_of c.as_slice.ensures ∙ c.in_ok-rows.ensures.read))
    c.parts_of.ensures.read
