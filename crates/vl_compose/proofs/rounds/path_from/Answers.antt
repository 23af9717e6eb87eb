use Rattle.vl_compose.proofs.RoundLemmas.{path_more}
use Rattle.vl_compose.proofs.rounds.path_from.Goals as goal

pub loop-here-preserved : goal.loop-here-preserved
loop-here-preserved c = path_more _ _ _ _ _ _ _ c.loop-here-test.true c.here-item.is c.in_ok-push_step.ensures c.loop-here.invariant
