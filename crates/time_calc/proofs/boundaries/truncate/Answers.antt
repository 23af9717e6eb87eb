use Rattle.std.proofs.Common.{◌∙◌, ap, sym, arith, Some, FitsSigned, to_z-of_z}
use Rattle.std.specs.Int.{w64}
use Rattle.std.proofs.lemmas.Int.{ints}
use Rattle.time_calc.specs.Instants.{instant_number}
use Rattle.time_calc.proofs.BoundaryUnits.{answers_last}
use Rattle.time_calc.proofs.boundaries.truncate.Goals as goal

pub returns-clause-last : goal.returns-clause-last
returns-clause-last c =
    let here = c.in_ok-instant.ensures in
    let low = here.low in let high = here.high in
    let instant : FitsSigned w64 c.in_ok-instant.instant = omega (arith, ints) in
    let fits : FitsSigned w64 c.truncated.result = omega (arith, ints) in
    let is = simp to_z-of_z at c.truncated.ensures.value in
    let number = simp to_z-of_z at c.number_of.ensures in
    answers_last c.args.unit c.args.n _ c.number_of.result c.in_ok-instant.instant c.requires.some (record { low = low; high = high }) (sym here.value)
    (number ∙ ap (λ b. Some (instant_number b)) is)
