use Rattle.std.proofs.Common.{◌∙◌, ap}
use Rattle.time_calc.specs.Instants.{is_time}
use Rattle.time_calc.specs.TimeUnits.{kept_time}
use Rattle.time_calc.proofs.InstantLemmas.{instants_are_of_their_days}
use Rattle.time_calc.proofs.TimeUnitLemmas.{time_in_range}
use Rattle.time_calc.proofs.time_units.start_time.Goals as goal

pub since_midnight-requires : goal.since_midnight-requires
since_midnight-requires c =
    ap is_time c.kept_time.ensures
    ∙ time_in_range c.args.kept.now c.time_of_instant.result (ap is_time c.time_of_instant.ensures ∙ (instants_are_of_their_days _).time)
