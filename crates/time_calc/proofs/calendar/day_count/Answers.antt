use Rattle.time_calc.proofs.JiffDates.{count_since}
use Rattle.time_calc.proofs.calendar.day_count.Goals as goal

pub overflow_sub-result : goal.overflow_sub-result
overflow_sub-result c =
    let parts = c.civil_date.ensures in
    (count_since c.civil_date.result c.to_plain.result c.args.date c.days_since_min.result parts.year
    parts.month parts.day c.to_plain.ensures c.days_since_min.ensures.value).0

pub returns-clause-value : goal.returns-clause-value
returns-clause-value c =
    let parts = c.civil_date.ensures in
    (count_since c.civil_date.result c.to_plain.result c.args.date c.days_since_min.result parts.year
    parts.month parts.day c.to_plain.ensures c.days_since_min.ensures.value).1
