use Rattle.std.proofs.Common.{◌∙◌}
use Rattle.time_calc.proofs.JiffDates.{after_the_year, first_of_month}
use Rattle.time_calc.proofs.calendar.days_before_month.Goals as goal

pub returns-then-months-eq12-clause-value : goal.returns-then-months-eq12-clause-value
returns-then-months-eq12-clause-value c = c.days_before_year.ensures.value ∙ after_the_year c.args.year c.args.months c.if-months-eq12.true

pub returns-else-months-eq12-clause-value : goal.returns-else-months-eq12-clause-value
returns-else-months-eq12-clause-value c = c.day_count.ensures.value ∙ first_of_month c.args.year c.args.months
