use Rattle.time_calc.proofs.TimeUnitEnds.{time_units_are_whole}
use Rattle.time_calc.proofs.laws.laws_of_time_units.Goals as goal

pub returns : goal.returns
returns c = time_units_are_whole
