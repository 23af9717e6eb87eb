use Rattle.std.proofs.Common.{[], ◌∷◌, ◌++◌, map, ap, ◌∙◌}
use Rattle.std.proofs.lemmas.List.{map-append}
use Rattle.std.proofs.lemmas.Result.{on_ok_weaker}
use Rattle.plain_facets.specs.Rows.{data_of}
use Rattle.vega_copies.proofs.copies.push_parts.Goals as goal

pub returns : goal.returns
returns c =
    on_ok_weaker c.push.result
    (λ e. ap (map (map data_of)) e
    ∙ map-append (map data_of) c.args.tables.now (c.in_ok-parts_named.field-0 ∷ [])
    ∙ ap (λ rows. map (map data_of) c.args.tables.now ++ rows ∷ []) c.in_ok-parts_named.ensures)
    c.push.ensures.ok
