use Rattle.std.proofs.Common.{◌≡◌, ◌∙◌, ap, arith, pos, ◌+ℤ◌, ◌*ℤ◌, FitsSigned, to_z-of_z}
use Rattle.std.specs.Int.{w64}
use Rattle.std.proofs.lemmas.Int.{ints}
use Rattle.time_calc.specs.TimeUnits.{start_of, start_day, start_time}
use Rattle.time_calc.proofs.time_units.start_of.Goals as goal

pub returns-clause-value : goal.returns-clause-value
unfolding start_of
returns-clause-value c =
    let instant : FitsSigned w64 c.args.instant = c.ranges.instant in
    let fits : FitsSigned w64 c.start_day.result = omega (arith, ints) in
    let day = simp to_z-of_z at c.start_day.ensures.value in
    let time = simp to_z-of_z at c.start_time.ensures.value in
    let together : c.start_day.result *ℤ pos 86400000 +ℤ pos c.start_time.result ≡ start_of c.args.kept.now c.args.instant =
    ap (λ q. q *ℤ pos 86400000 +ℤ pos c.start_time.result) day ∙ ap (λ m. start_day c.args.kept.now c.args.instant *ℤ pos 86400000 +ℤ pos m) time in
    let low = c.start_day.ensures.low in let high = c.start_day.ensures.high in
    omega (arith, ints, together, low, high)
