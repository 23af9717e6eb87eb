use Rattle.std.proofs.Common.{◌∙◌, ap, arith, FitsSigned, to_z-of_z, ◌-ℤ◌}
use Rattle.std.specs.Int.{w128}
use Rattle.std.proofs.lemmas.Int.{ints}
use Rattle.time_calc.specs.Instants.{instant_in_range}
use Rattle.time_calc.proofs.texts.number_at.Goals as goal

pub returns : goal.returns
returns c =
    let zone : FitsSigned w128 c.args.zone = c.ranges.zone in
    let here : FitsSigned w128 c.instant_of_day.result = omega (arith, ints) in
    let moved : FitsSigned w128 (c.instant_of_day.result -ℤ c.args.zone) = omega (arith, ints) in
    let number = simp to_z-of_z at c.instant_in_range.ensures in
    number ∙ ap (λ i. instant_in_range (i -ℤ c.args.zone)) c.instant_of_day.ensures.value
