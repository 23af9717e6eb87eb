use Rattle.std.proofs.Common.{◌∙◌, sym, arith, Some, None, FitsSigned, to_z-of_z}
use Rattle.std.specs.Int.{w64}
use Rattle.std.proofs.lemmas.Int.{ints}
use Rattle.time_calc.proofs.BoundaryUnits.{answers_first}
use Rattle.time_calc.proofs.boundaries.next.Goals as goal

pub returns-in_err-next_boundary-clause-first : goal.returns-in_err-next_boundary-clause-first
returns-in_err-next_boundary-clause-first c =
    let here = c.in_ok-instant.ensures in
    let low = here.low in let high = here.high in
    let instant : FitsSigned w64 c.in_ok-instant.instant = omega (arith, ints) in
    let is = simp to_z-of_z at c.next_boundary.ensures.value in
    answers_first c.args.unit c.args.n _ None c.from_residual-in_err-next_boundary.result
    c.in_ok-instant.instant c.requires.some (record { low = low; high = high }) (sym here.value)
    (sym c.in_err-next_boundary.was ∙ is) c.from_residual-in_err-next_boundary.ensures

pub returns-clause-first : goal.returns-clause-first
returns-clause-first c =
    let here = c.in_ok-instant.ensures in
    let low = here.low in let high = here.high in
    let instant : FitsSigned w64 c.in_ok-instant.instant = omega (arith, ints) in
    let is = simp to_z-of_z at c.next_boundary.ensures.value in
    let near = c.in_ok-next_boundary.ensures in
    let from = near.low in let upto = near.high in
    let fits : FitsSigned w64 c.in_ok-next_boundary.field-0 = omega (arith, ints) in
    let number = simp to_z-of_z at c.number_of.ensures in
    answers_first c.args.unit c.args.n _ (Some c.in_ok-next_boundary.field-0) c.number_of.result
    c.in_ok-instant.instant c.requires.some (record { low = low; high = high }) (sym here.value)
    (sym c.in_ok-next_boundary.was ∙ is) number
