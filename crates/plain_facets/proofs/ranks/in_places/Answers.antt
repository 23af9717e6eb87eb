use Rattle.std.proofs.Common.{◌∙◌, ap, map}
use Rattle.std.specs.List.{enumerate_from}
use Rattle.plain_facets.specs.inner.Ranks.{ranked}
use Rattle.plain_facets.proofs.FieldLemmas.{in_places_gives}
use Rattle.plain_facets.proofs.ranks.in_places.Goals as goal

pub returns : goal.returns
returns c =
    in_places_gives c.args.fields.now (λ p. (p.0.items, p.1.items)) c.args.keys.now _ _ _
    (c.in_ok-ranked.ensures ∙ ap (λ columns. map (ranked columns) (enumerate_from 0 c.args.keys.now)) (c.as_slice.ensures ∙ c.in_ok-columns.ensures))
    c.in_ok-found.ensures (c.in_ok-second_keys.ensures ∙ ap (map (λ pair. pair.1.items)) c.as_slice-2.ensures.value)
