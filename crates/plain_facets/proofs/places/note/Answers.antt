use Rattle.std.proofs.Common.{◌∙◌, ap, sym, cond, Some}
use Rattle.plain_facets.specs.Facets.{is_key}
use Rattle.plain_facets.specs.inner.Places.{place_at}
use Rattle.plain_groups.proofs.PlaceLemmas.{found_stays, found_more}
use Rattle.plain_facets.proofs.places.note.Goals as goal

pub returns-in-Some-clause-places : goal.returns-in-Some-clause-places
returns-in-Some-clause-places c q =
    found_stays c.args.places.now c.args.key.now.items q.items c.args.at c.in-Some.place
    (ap (place_at c.args.places.now) (sym c.as_slice.ensures.value) ∙ sym c.in-Some.ensures)

pub returns-in_ok-put-in-None-clause-places : goal.returns-in_ok-put-in-None-clause-places
returns-in_ok-put-in-None-clause-places c q =
    c.in_ok-put-in-None.ensures q
    ∙ ap (λ k. cond (is_key k q.items) (Some c.args.at) (place_at c.args.places.now q.items)) c.in_ok-copied-in-None.ensures
    ∙ found_more c.args.places.now c.args.key.now.items q.items c.args.at
    (ap (place_at c.args.places.now) (sym c.as_slice.ensures.value) ∙ sym c.in-None.ensures)
