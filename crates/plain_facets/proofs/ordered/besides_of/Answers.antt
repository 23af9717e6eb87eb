use Rattle.plain_facets.proofs.OrderLemmas.{first_more}
use Rattle.plain_facets.proofs.ordered.besides_of.Goals as goal

pub loop-pair-preserved : goal.loop-pair-preserved
loop-pair-preserved c q =
    first_more c.args.pairs.now c.loop-pair.pair-index c.pair-item.result q _ _ c.loop-pair-test.true c.pair-item.is (c.loop-pair.invariant q)
    (c.in_ok-note.ensures q)
