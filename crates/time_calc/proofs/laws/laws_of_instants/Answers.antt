use Rattle.time_calc.proofs.InstantLemmas.{instants_are_of_their_days, days_have_times}
use Rattle.time_calc.proofs.laws.laws_of_instants.Goals as goal

pub returns : goal.returns
returns c = record { instants_are_of_their_days = instants_are_of_their_days; days_have_times = days_have_times }
