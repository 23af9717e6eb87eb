use Rattle.tick_kit.proofs.MultipleLemmas.{multiples_are_all}
use Rattle.tick_kit.proofs.laws.laws_of_ticks.Goals as goal

pub returns : goal.returns
returns c = multiples_are_all
