use Rattle.std.proofs.Common.{arith, FitsSigned, to_z-of_z}
use Rattle.std.specs.Int.{w64}
use Rattle.std.proofs.lemmas.Int.{ints, clamps}
use Rattle.time_calc.proofs.BoundaryUnits.{last_of_unit}
use Rattle.time_calc.proofs.boundaries.truncated.Goals as goal

pub returns-clause-high : goal.returns-clause-high
returns-clause-high c =
    let fits : FitsSigned w64 c.boundary_at.result = omega (arith, ints) in
    let instant : FitsSigned w64 c.args.instant = c.ranges.instant in
    let is = simp to_z-of_z at c.boundary_at.ensures in
    let last = last_of_unit c.args.unit c.args.n c.args.instant c.requires.some (record { low = c.requires.first; high = c.requires.last }) in
    let upto = last.not_after in
    omega (arith, ints, clamps, c.max.ensures.value, is, upto)
