use Rattle.std.proofs.Common.{◌≡◌, ◌<◌, map, take, length, unwrap_or, sym, subst, All}
use Rattle.std.proofs.lemmas.List.Elements.{All-push}
use Rattle.plain_rows.proofs.Keys.{small_id}
use Rattle.plain_groups.specs.inner.Places.{key_cells, first_place}
use Rattle.plain_groups.proofs.PlaceLemmas.{places_more, leads_found, leads_within, leader_more}
use Rattle.plain_groups.proofs.places.leaders.Goals as goal

pub key_cells-requires : goal.key_cells-requires
key_cells-requires c = small_id c.args.rows.now c.loop-at.at _ c.requires c.loop-at-test.true c.index-rows-at.is

pub loop-at-preserved : goal.loop-at-preserved
loop-at-preserved c =
    let rows = c.args.rows.now in
    let at = c.loop-at.at in
    let row = c.index-rows-at.result in
    let f = key_cells c.args.fields.now in
    let below : at < length rows = c.loop-at-test.true in
    let is = c.index-rows-at.is in
    let place : c.in_ok-leader.field-0 ≡ unwrap_or (first_place (map f (take at rows)) (f row)) at =
    leads_found rows at row below is f c.in_ok-key.key.items _ c.in_ok-leader.field-0 c.in_ok-key.ensures
    (c.loop-at.invariant.places c.in_ok-key.key) c.in_ok-leader.ensures.place in
    record {
      found = leader_more rows at row below is f c.loop-at.found c.push.new.self _
          c.in_ok-leader.field-0 place c.in_ok-push.ensures.ok c.loop-at.invariant.found;
      within =
          subst (All (λ place. place < length rows)) (sym c.in_ok-push.ensures.ok)
          (All-push (λ place. place < length rows) c.loop-at.found c.in_ok-leader.field-0 c.loop-at.invariant.within
          (subst (λ k. k < length rows) (sym place) (leads_within rows at row below is f)));
      places = λ q. places_more rows at row below is f q.items _ _ c.in_ok-key.key.items
          c.in_ok-key.ensures (c.loop-at.invariant.places q) (c.in_ok-leader.ensures.places q);
    }
