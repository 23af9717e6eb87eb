use Rattle.std.proofs.Common.{arith, FitsSigned, w8}
use Rattle.jiff_core.specs.Weekday.{monday_zero}
use Rattle.jiff_core.proofs.SignedLemmas.{signed_arith}
use Rattle.time_calc.proofs.JiffDates.{weekday_alike}
use Rattle.time_calc.proofs.calendar.weekday_of_count.Goals as goal

pub returns-clause-value : goal.returns-clause-value
returns-clause-value c =
    let alike = weekday_alike c.civil_of_count.result (monday_zero c.weekday-weekday.result) c.args.count c.civil_of_count.ensures c.weekday-weekday.ensures in
    let offset = c.to_sunday_zero_offset.ensures.value in
    let fits : FitsSigned w8 c.to_sunday_zero_offset.result = omega (arith, signed_arith, c.to_sunday_zero_offset.ensures.bound) in
    omega (arith, signed_arith, alike, offset, c.unsigned_abs.ensures.value, c.from.ensures)
