use Rattle.vl_compose.proofs.RoundLemmas.{transforms_more}
use Rattle.vl_compose.proofs.rounds.transforms_of.Goals as goal

pub loop-here-preserved : goal.loop-here-preserved
loop-here-preserved c = transforms_more _ _ _ _ _ _ c.loop-here-test.true c.here-item.is c.in_ok-push_transforms.ensures c.loop-here.invariant
