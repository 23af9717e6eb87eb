use Rattle.std.proofs.Common.{◌≡◌, ◌∙◌, ap, sym, subst, arith, ℤ, FitsSigned, to_z-of_z, pos, neg_ℤ, ◌≤ℤ◌, ◌+ℤ◌, List}
use Rattle.std.specs.Int.{w64}
use Rattle.std.proofs.lemmas.Int.{ints}
use Rattle.case_table.specs.declared.unit.PartOf.{PartOf}
use Rattle.time_calc.specs.Boundaries.{date_at}
use Rattle.time_calc.specs.declared.calendar.Date.{Date}
use Rattle.time_calc.specs.Calendar.{date_of_day, day_of_date, weekday_of}
use Rattle.time_calc.specs.Instants.{day_of_instant}
use Rattle.time_calc.specs.TimeUnits.{kept_month, kept_days, start_day}
use Rattle.time_calc.proofs.CalendarLemmas.{date_of_parts}
use Rattle.time_calc.proofs.BoundaryUnits.{IsInstant, weekday_at_most_6}
use Rattle.time_calc.proofs.TimeUnitLemmas.{IsDateInRange, date_in_range, month_in_range, days_in_range, start_in_range}
use Rattle.time_calc.proofs.time_units.start_day.Goals as goal

date_is : (d : Date) (day i : ℤ) → IsInstant i → d ≡ date_of_day day → day ≡ day_of_instant i → IsDateInRange d
date_is d day i in_range is from = subst IsDateInRange (sym (is ∙ ap date_of_day from)) (date_in_range i in_range)

pub day_of_date-requires-clause-year : goal.day_of_date-requires-clause-year
day_of_date-requires-clause-year c =
    let fits : FitsSigned w64 c.day_of_instant-day.result = omega (arith, ints) in
    let instant : FitsSigned w64 c.args.instant = c.ranges.instant in
    let day = simp to_z-of_z at c.day_of_instant-day.ensures.value in
    let date = simp to_z-of_z at c.date_of_day-date.ensures.value in
    let known = date_is c.date_of_day-date.result c.day_of_instant-day.result c.args.instant
    (record { low = c.requires.first; high = c.requires.last }) date day in
    let month = subst IsDateInRange (sym c.kept_month.ensures) (month_in_range c.args.kept.now c.date_of_day-date.result known) in
    let high = month.high in
    omega (arith, high)

pub day_of_date-requires-clause-date : goal.day_of_date-requires-clause-date
day_of_date-requires-clause-date c =
    let fits : FitsSigned w64 c.day_of_instant-day.result = omega (arith, ints) in
    let instant : FitsSigned w64 c.args.instant = c.ranges.instant in
    let day = simp to_z-of_z at c.day_of_instant-day.ensures.value in
    let date = simp to_z-of_z at c.date_of_day-date.ensures.value in
    let known = date_is c.date_of_day-date.result c.day_of_instant-day.result c.args.instant
    (record { low = c.requires.first; high = c.requires.last }) date day in
    let month = subst IsDateInRange (sym c.kept_month.ensures) (month_in_range c.args.kept.now c.date_of_day-date.result known) in
    date_of_parts c.kept_month.result month.has

pub kept_days-requires : goal.kept_days-requires
kept_days-requires c =
    let fits : FitsSigned w64 c.day_of_instant-day.result = omega (arith, ints) in
    let instant : FitsSigned w64 c.args.instant = c.ranges.instant in
    let day = simp to_z-of_z at c.day_of_instant-day.ensures.value in
    let date = simp to_z-of_z at c.date_of_day-date.ensures.value in
    let known = date_is c.date_of_day-date.result c.day_of_instant-day.result c.args.instant
    (record { low = c.requires.first; high = c.requires.last }) date day in
    known.has.day_low

pub returns : goal.returns
returns c =
    let kept : List PartOf = c.args.kept.now in
    let fits : FitsSigned w64 c.day_of_instant-day.result = omega (arith, ints) in
    let instant : FitsSigned w64 c.args.instant = c.ranges.instant in
    let in_range : IsInstant c.args.instant = record { low = c.requires.first; high = c.requires.last } in
    let day = simp to_z-of_z at c.day_of_instant-day.ensures.value in
    let date = simp to_z-of_z at c.date_of_day-date.ensures.value in
    let weekday = simp to_z-of_z at c.weekday_of.ensures.value in
    let d_is : c.date_of_day-date.result ≡ date_at c.args.instant = date ∙ ap date_of_day day in
    let w_is : c.weekday_of.result ≡ weekday_of (day_of_instant c.args.instant) = weekday ∙ ap weekday_of day in
    let from = c.day_of_date.ensures.value ∙ ap day_of_date (c.kept_month.ensures ∙ ap (kept_month kept) d_is) in
    let days = c.kept_days.ensures ∙ ap (λ d. kept_days kept d c.weekday_of.result) d_is ∙ ap (kept_days kept (date_at c.args.instant)) w_is in
    let is : c.day_of_date.result +ℤ pos c.kept_days.result ≡ start_day kept c.args.instant =
    ap (λ a. a +ℤ pos c.kept_days.result) from ∙ ap (λ k. day_of_date (kept_month kept (date_at c.args.instant)) +ℤ pos k) days in
    let known = date_in_range c.args.instant in_range in
    let month = month_in_range kept (date_at c.args.instant) known in
    let near = start_in_range (kept_month kept (date_at c.args.instant)).year (kept_month kept (date_at c.args.instant)).month
    (kept_days kept (date_at c.args.instant) (weekday_of (day_of_instant c.args.instant)))
    month.low month.high month.has.month_low month.has.month_high (days_in_range kept (date_at c.args.instant)
    (weekday_of (day_of_instant c.args.instant)) known (weekday_at_most_6 (day_of_instant c.args.instant))) in
    let low : neg_ℤ (pos 719162) ≤ℤ start_day kept c.args.instant = near.0 in
    let high : start_day kept c.args.instant ≤ℤ pos 2932531 = near.1 in
    let whole = c.from.ensures in
    record {
      value = omega (arith, ints, is, whole, low, high);
      low = omega (arith, ints, is, whole, low, high);
      high = omega (arith, ints, is, whole, low, high);
    }
