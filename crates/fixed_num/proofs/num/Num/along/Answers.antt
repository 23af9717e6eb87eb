use Rattle.std.proofs.Common.{◌≡◌, ◌*ℤ◌, arith}
use Rattle.std.proofs.lemmas.Int.{ints, to_z-of_z}
use Rattle.fixed_num.specs.Number.{rounded_ratio}
use Rattle.fixed_num.proofs.RoundingLemmas.{exact_at}
use Rattle.fixed_num.proofs.num.Num.along.Goals as goal

pub returns : goal.returns
returns c =
    let p = c.ranges.p in
    let q = c.ranges.q in
    let r = c.ranges.r in
    let moved : c.in_ok-rounded_product.field-0 ≡ rounded_ratio (c.args.p *ℤ c.args.q) c.args.r =
    simp to_z-of_z at c.in_ok-rounded_product.ensures.value in
    exact_at _ _ _ c.of_millionths.ensures (omega (arith, ints, moved, c.in_ok-rounded_product.ensures.bound))
