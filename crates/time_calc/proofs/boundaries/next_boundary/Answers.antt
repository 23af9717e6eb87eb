use Rattle.std.proofs.Common.{arith, FitsSigned, to_z-of_z}
use Rattle.std.specs.Int.{w64}
use Rattle.std.proofs.lemmas.Int.{ints}
use Rattle.time_calc.proofs.BoundaryUnits.{first_of_unit}
use Rattle.time_calc.proofs.boundaries.next_boundary.Goals as goal

pub returns-then-boundary-clause-low : goal.returns-then-boundary-clause-low
returns-then-boundary-clause-low c =
    let fits : FitsSigned w64 c.boundary_at-boundary.result = omega (arith, ints) in
    let instant : FitsSigned w64 c.args.instant = c.ranges.instant in
    let is = simp to_z-of_z at c.boundary_at-boundary.ensures in
    let first = first_of_unit c.args.unit c.args.n c.args.instant c.requires.some (record { low = c.requires.first; high = c.requires.last }) in
    let after = first.after in
    omega (arith, ints, is, after)
