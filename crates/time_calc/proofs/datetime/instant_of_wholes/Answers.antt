use Rattle.std.proofs.Common.{◌∙◌, ◌≡◌, ap, ℤ, Option, Some, option_and_then, arith, FitsSigned, to_z-of_z}
use Rattle.std.specs.Int.{w128}
use Rattle.std.proofs.lemmas.Int.{ints}
use Rattle.time_calc.specs.Instants.{instant_in_range}
use Rattle.time_calc.specs.Datetime.{whole_of, first_of_month, instant_after}
use Rattle.time_calc.proofs.datetime.instant_of_wholes.Goals as goal

-- the instant of its parts, put together
put_together : (number : Option ℤ) (y m year month date day rest all instant : ℤ) →
    number ≡ instant_in_range instant → instant ≡ instant_after day date rest → rest ≡ all →
    Some day ≡ first_of_month y m → y ≡ year → m ≡ month →
    number ≡ option_and_then (λ day. instant_in_range (instant_after day date all)) (first_of_month year month)
put_together number y m year month date day rest all instant range after whole first is_year is_month =
    range ∙ ap instant_in_range (after ∙ ap (instant_after day date) whole)
    ∙ ap (option_and_then (λ day. instant_in_range (instant_after day date all)))
    (first ∙ ap (λ y. first_of_month y m) is_year ∙ ap (first_of_month year) is_month)

pub returns : goal.returns
returns c =
    let year : FitsSigned w128 c.whole_of.result = omega (arith, ints) in
    let month : FitsSigned w128 c.whole_of-2.result = omega (arith, ints) in
    let day : FitsSigned w128 c.in_ok-day.day = omega (arith, ints) in
    let rest : FitsSigned w128 c.milliseconds_of-rest.result = omega (arith, ints) in
    let after : FitsSigned w128 c.instant_after.result = omega (arith, ints) in
    let first = simp to_z-of_z at c.in_ok-day.ensures.value in
    let instant = simp to_z-of_z at c.instant_after.ensures in
    let number = simp to_z-of_z at c.instant_in_range.ensures in
    put_together _ c.whole_of.result c.whole_of-2.result (whole_of c.args.year) (whole_of c.args.month) (whole_of c.args.date)
    c.in_ok-day.day c.milliseconds_of-rest.result _ c.instant_after.result
    number instant c.milliseconds_of-rest.ensures.value first c.whole_of.ensures.value c.whole_of-2.ensures.value
