use Rattle.tick_kit.proofs.StepLawLemmas.{each_has_one_step}
use Rattle.tick_kit.proofs.WideningLemmas.{widening_stops}
use Rattle.tick_kit.proofs.laws.laws_of_steps.Goals as goal

pub returns : goal.returns
returns c = record { each_has_one_step = each_has_one_step; widening_stops = widening_stops }
