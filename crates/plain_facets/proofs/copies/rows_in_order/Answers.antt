use Rattle.std.proofs.Common.{◌∙◌, ap, ap₂, map}
use Rattle.tick_kit.specs.Domains.{ascending}
use Rattle.plain_facets.specs.Facets.{key_of, distinct_keys, by_places, cells_of_fields}
use Rattle.plain_facets.specs.Rows.{data_of}
use Rattle.plain_facets.proofs.RepeatLemmas.{distinct_in_places}
use Rattle.plain_facets.proofs.copies.rows_in_order.Goals as goal

pub returns : goal.returns
returns c =
    let rows = data_of c.args.rows.now in
    let fields = cells_of_fields c.args.d.now rows in
    c.in_ok-in_places.ensures
    ∙ ap₂ (λ fields keys. ascending (by_places fields) keys) (c.as_slice-2.ensures ∙ c.in_ok-fields.ensures) (c.as_slice-3.ensures ∙ c.in_ok-keys.ensures)
    ∙ ap (λ names. ascending (by_places fields) (distinct_keys (map (key_of names) rows))) c.as_slice.ensures
    ∙ distinct_in_places fields (map (key_of c.args.d.now.fields) rows)
