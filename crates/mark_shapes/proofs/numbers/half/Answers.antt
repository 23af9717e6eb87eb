use Rattle.std.proofs.Common.{◌+ℤ◌, ◌*ℤ◌, pos, arith, FitsSigned}
use Rattle.std.specs.Int.{w128}
use Rattle.std.specs.Option.{SomeIff}
use Rattle.std.proofs.lemmas.Int.{ints, to_z-of_z}
use Rattle.fixed_num.specs.Number.{IsNumber, rounded_ratio}
use Rattle.mark_shapes.proofs.HalfLemmas.{half_in_range}
use Rattle.mark_shapes.proofs.numbers.half.Goals as goal

pub returns : goal.returns
returns c =
    let low = c.millionths.ensures.in_range.0 in
    let high = c.millionths.ensures.in_range.1 in
    let fits : FitsSigned w128 c.millionths.result = omega (arith, ints, c.millionths.ensures.value, low, high) in
    let exact : SomeIff c.along.result (IsNumber (c.zero.result +ℤ rounded_ratio (c.millionths.result *ℤ pos 1) (pos 2)))
    (c.zero.result +ℤ rounded_ratio (c.millionths.result *ℤ pos 1) (pos 2)) = simp to_z-of_z at c.along.ensures in
    half_in_range c.along.result c.zero.result c.millionths.result c.args.size c.zero.ensures c.millionths.ensures.value exact
