use Rattle.vl_compose.proofs.RoundLemmas.{source_more}
use Rattle.vl_compose.proofs.rounds.source_of.Goals as goal

pub loop-here-preserved : goal.loop-here-preserved
loop-here-preserved c = source_more _ _ _ _ _ _ c.loop-here-test.true c.here-item.is c.or_outer-source.ensures c.loop-here.invariant
