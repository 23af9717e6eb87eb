use Rattle.std.proofs.Common.{◌≡◌, ◌∙◌, ℕ, unsigned_abs, ap, sym, arith, FitsSigned, w16}
use Rattle.jiff_core.proofs.SignedLemmas.{signed_arith}
use Rattle.time_calc.specs.declared.calendar.Date.{Date}
use Rattle.time_calc.proofs.JiffDates.{date_alike}
use Rattle.time_calc.proofs.calendar.date_of_count.Goals as goal

pub returns-clause-value : goal.returns-clause-value
returns-clause-value c =
    let d = c.civil_of_count-date.result in
    let fits : FitsSigned w16 d.year = omega (arith, signed_arith, d.year_in) in
    let year : c.from.result ≡ unsigned_abs d.year = omega (arith, signed_arith, c.from.ensures, c.unsigned_abs.ensures.value) in
    let made : ℕ → ℕ → ℕ → Date = λ y m k. record { year = y; month = m; day = k } in
    ap (λ y. made y c.from-2.result c.from-3.result) year ∙ ap (λ m. made (unsigned_abs d.year) m c.from-3.result) c.from-2.ensures
    ∙ ap (made (unsigned_abs d.year) d.month) c.from-3.ensures ∙ sym (date_alike d c.args.count c.civil_of_count-date.ensures)
