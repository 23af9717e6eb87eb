use Rattle.vl_compose.proofs.RoundLemmas.{facets_more}
use Rattle.vl_compose.proofs.rounds.facets_of.Goals as goal

pub loop-here-preserved : goal.loop-here-preserved
loop-here-preserved c = facets_more _ _ _ _ _ _ c.loop-here-test.true c.here-item.is c.in_ok-push_faceted.ensures c.loop-here.invariant
