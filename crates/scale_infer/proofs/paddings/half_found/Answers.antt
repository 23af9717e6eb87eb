use Rattle.std.proofs.Common.{◌+ℤ◌, ◌*ℤ◌, pos, arith, FitsSigned}
use Rattle.std.specs.Int.{w128}
use Rattle.std.specs.Option.{SomeIff}
use Rattle.std.proofs.lemmas.Int.{ints, to_z-of_z}
use Rattle.fixed_num.specs.Number.{IsNumber, rounded_ratio}
use Rattle.scale_infer.proofs.HalfLemmas.{half_is_some}
use Rattle.scale_infer.proofs.paddings.half_found.Goals as goal

pub returns : goal.returns
returns c =
    let low = c.millionths-2.ensures.in_range.0 in
    let high = c.millionths-2.ensures.in_range.1 in
    let fits : FitsSigned w128 c.millionths-2.result = omega (arith, ints, c.millionths-2.ensures.value, low, high) in
    let exact : SomeIff c.along.result (IsNumber (c.millionths.result +ℤ rounded_ratio (c.millionths-2.result *ℤ pos 1) (pos 2)))
    (c.millionths.result +ℤ rounded_ratio (c.millionths-2.result *ℤ pos 1) (pos 2)) = simp to_z-of_z at c.along.ensures in
    half_is_some c.along.result c.millionths.result c.millionths-2.result c.args.number c.millionths.ensures c.millionths-2.ensures.value
    c.millionths-2.ensures.in_range exact
