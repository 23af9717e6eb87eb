use Rattle.std.proofs.Common.{◌∙◌}
use Rattle.time_calc.proofs.JiffDates.{before_year_10000, first_of_year}
use Rattle.time_calc.proofs.calendar.days_before_year.Goals as goal

pub returns-then-year-eq10000-clause-value : goal.returns-then-year-eq10000-clause-value
returns-then-year-eq10000-clause-value c = before_year_10000 c.args.year c.if-year-eq10000.true

pub returns-else-year-eq10000-clause-value : goal.returns-else-year-eq10000-clause-value
returns-else-year-eq10000-clause-value c = c.day_count.ensures.value ∙ first_of_year c.args.year
