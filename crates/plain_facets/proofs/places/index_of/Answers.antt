use Rattle.plain_facets.proofs.ListLemmas.{place_more}
use Rattle.plain_facets.proofs.places.index_of.Goals as goal

pub loop-at-preserved : goal.loop-at-preserved
loop-at-preserved c q =
    place_more c.args.keys.now c.loop-at.at c.index-keys-at.result c.in_ok-own.own.items q.items _ _ c.loop-at-test.true c.index-keys-at.is
    c.in_ok-own.ensures (c.loop-at.invariant q) (c.in_ok-note.ensures.places q)
