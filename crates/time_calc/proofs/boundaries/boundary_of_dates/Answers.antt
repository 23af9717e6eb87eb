use Rattle.std.proofs.Common.{ap, ◌∙◌, arith, ℤ, FitsSigned, to_z-of_z}
use Rattle.std.specs.Int.{w64}
use Rattle.std.proofs.lemmas.Int.{ints}
use Rattle.time_calc.specs.declared.calendar.Date.{Date}
use Rattle.time_calc.specs.Calendar.{is_date}
use Rattle.time_calc.proofs.CalendarLemmas.{days_have_dates}
use Rattle.time_calc.proofs.BoundaryDays.{year_of_day}
use Rattle.time_calc.proofs.boundaries.boundary_of_dates.Goals as goal

pub boundary_by_date-requires-clause-date : goal.boundary_by_date-requires-clause-date
boundary_by_date-requires-clause-date c =
    let day : ℤ = c.day_of_instant.result in
    let fits : FitsSigned w64 day = omega (arith, ints) in
    let value = simp to_z-of_z at c.date_of_day-date.ensures.value in
    ap is_date value ∙ days_have_dates day (omega (arith, ints))

pub boundary_by_date-requires-clause-year : goal.boundary_by_date-requires-clause-year
boundary_by_date-requires-clause-year c =
    let day : ℤ = c.day_of_instant.result in
    let fits : FitsSigned w64 day = omega (arith, ints) in
    let value = simp to_z-of_z at c.date_of_day-date.ensures.value in
    let year = ap (λ (d : Date). d.year) value in
    omega (arith, year, year_of_day day (omega (arith, ints)) (omega (arith, ints)))
