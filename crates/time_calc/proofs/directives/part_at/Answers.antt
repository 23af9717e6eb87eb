use Rattle.std.proofs.Common.{arith, FitsSigned, to_z-of_z}
use Rattle.std.specs.Int.{w64}
use Rattle.time_calc.proofs.TimeUnitLemmas.{small_part}
use Rattle.time_calc.proofs.directives.part_at.Goals as goal

pub returns-clause-bound : goal.returns-clause-bound
returns-clause-bound c =
    let instant : FitsSigned w64 c.args.instant = c.ranges.instant in
    let is = simp to_z-of_z at c.part_of.ensures in
    let small = small_part c.args.instant c.args.p (record { low = c.requires.first; high = c.requires.last }) in
    omega (arith, is, small)
