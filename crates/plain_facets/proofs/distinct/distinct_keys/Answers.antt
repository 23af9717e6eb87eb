use Rattle.std.proofs.Common.{◌∙◌, ◌++◌, [], ◌∷◌, cond, is_some, take, ap, arith}
use Rattle.plain_groups.proofs.PlaceLemmas.{places_more}
use Rattle.plain_facets.specs.Facets.{is_key, distinct_keys}
use Rattle.plain_facets.specs.inner.Places.{key_shown, keys_shown}
use Rattle.plain_facets.proofs.ListLemmas.{id_there, firsts_more, firsts_all, key_seen, keys_are_shown}
use Rattle.plain_facets.proofs.distinct.distinct_keys.Goals as goal

pub fill_key-requires : goal.fill_key-requires
fill_key-requires c = id_there c.args.rows.now c.loop-at.at c.index-rows-at.result c.requires c.loop-at-test.true c.index-rows-at.is

pub loop-at-preserved : goal.loop-at-preserved
loop-at-preserved c = record {
  places = λ q. places_more c.args.rows.now c.loop-at.at c.index-rows-at.result c.loop-at-test.true c.index-rows-at.is (key_shown c.args.fields.now)
      q.items _ _ c.fill_key.new.key.items c.in_ok-fill_key.ensures (c.loop-at.invariant.places q) (c.in_ok-had.ensures.places q);
  found = firsts_more (key_shown c.args.fields.now) is_key c.args.rows.now c.loop-at.at c.index-rows-at.result _ c.loop-at.found _ _
      c.loop-at-test.true c.index-rows-at.is
      (key_seen (keys_shown c.args.fields.now (take c.loop-at.at c.args.rows.now)) c.fill_key.new.key.items _ c.in_ok-had.had c.in_ok-fill_key.ensures
      (c.in_ok-had.ensures.had ∙ c.loop-at.invariant.places c.fill_key.new.key))
      (c.in_ok-push_new.ensures ∙ ap (λ key. cond (is_some c.in_ok-had.had) c.loop-at.found (c.loop-at.found ++ key ∷ [])) c.in_ok-fill_key.ensures)
      c.loop-at.invariant.found;
}

pub returns : goal.returns
returns c =
    firsts_all (key_shown c.args.fields.now) is_key c.args.rows.now c.loop-at.at c.loop-at.found _ (omega arith) c.loop-at.invariant.found
    ∙ ap distinct_keys (keys_are_shown c.args.fields.now c.args.rows.now)
