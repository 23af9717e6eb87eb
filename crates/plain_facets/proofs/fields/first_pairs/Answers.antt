use Rattle.std.proofs.Common.{◌∙◌, [], ◌∷◌, ap, arith}
use Rattle.plain_groups.specs.Groups.{firsts}
use Rattle.plain_groups.proofs.PlaceLemmas.{places_more}
use Rattle.plain_facets.specs.inner.Besides.{alike_pairs, pair_shown}
use Rattle.plain_facets.specs.inner.Places.{key_shown}
use Rattle.plain_facets.proofs.ListLemmas.{id_there, firsts_more, firsts_all}
use Rattle.plain_facets.proofs.FieldLemmas.{pair_seen, pairs_are_shown}
use Rattle.plain_facets.proofs.fields.first_pairs.Goals as goal

pub fill_lone-requires : goal.fill_lone-requires
fill_lone-requires c = id_there c.args.rows.now c.loop-at.at c.index-rows-at.result c.requires c.loop-at-test.true c.index-rows-at.is

pub push_new-requires : goal.push_new-requires
push_new-requires c = id_there c.args.rows.now c.loop-at.at c.index-rows-at.result c.requires c.loop-at-test.true c.index-rows-at.is

pub loop-at-preserved : goal.loop-at-preserved
loop-at-preserved c = record {
  places = λ q. places_more c.args.rows.now c.loop-at.at c.index-rows-at.result c.loop-at-test.true c.index-rows-at.is (key_shown (c.args.field.now ∷ []))
      q.items _ _ c.fill_lone.new.key.items c.in_ok-fill_lone.ensures (c.loop-at.invariant.places q) (c.in_ok-had.ensures.places q);
  found = firsts_more (pair_shown c.args.field.now c.args.other.now) alike_pairs c.args.rows.now c.loop-at.at c.index-rows-at.result _ c.loop-at.pairs _ _
      c.loop-at-test.true c.index-rows-at.is
      (pair_seen c.args.field.now c.args.other.now c.args.rows.now c.loop-at.at c.index-rows-at.result c.fill_lone.new.key.items c.in_ok-had.had
      c.in_ok-fill_lone.ensures (c.in_ok-had.ensures.had ∙ c.loop-at.invariant.places c.fill_lone.new.key))
      c.in_ok-push_new.ensures c.loop-at.invariant.found;
}

pub returns : goal.returns
returns c =
    firsts_all (pair_shown c.args.field.now c.args.other.now) alike_pairs c.args.rows.now c.loop-at.at c.loop-at.pairs _ (omega arith) c.loop-at.invariant.found
    ∙ ap (firsts alike_pairs) (pairs_are_shown c.args.field.now c.args.other.now c.args.rows.now)
