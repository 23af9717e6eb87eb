use Rattle.tick_kit.proofs.BoundaryLemmas.{boundaries_are_all}
use Rattle.tick_kit.proofs.laws.laws_of_time_ticks.Goals as goal

pub returns : goal.returns
returns c = boundaries_are_all
