-- The half of a number.
use Rattle.std.proofs.Common.{◌≡◌, ℤ, pos, ◌+ℤ◌, ◌*ℤ◌, Option, arith, ap, ◌∙◌}
use Rattle.std.specs.Option.{SomeIff}
use Rattle.std.proofs.lemmas.Int.{ints}
use Rattle.fixed_num.specs.Number.{IsNumber, rounded, rounded_ratio}
use Rattle.fixed_num.specs.Ranges.{in_range}
use Rattle.fixed_num.proofs.RangeLemmas.{in_range_from_exact}

half_is : (z p s : ℤ) → z ≡ pos 0 → p ≡ s → z +ℤ rounded_ratio (p *ℤ pos 1) (pos 2) ≡ rounded s 2
unfolding rounded_ratio
half_is z p s none same =
    let once : p *ℤ pos 1 ≡ s = omega (arith, ints, same) in
    let alone : z +ℤ rounded (p *ℤ pos 1) 2 ≡ rounded (p *ℤ pos 1) 2 = omega (arith, ints, none) in
    alone ∙ ap (λ x. rounded x 2) once

-- an answer that is exact at the half of a number is that half where it is in range
pub half_in_range : (o : Option ℤ) (z p s : ℤ) → z ≡ pos 0 → p ≡ s
    → SomeIff o (IsNumber (z +ℤ rounded_ratio (p *ℤ pos 1) (pos 2))) (z +ℤ rounded_ratio (p *ℤ pos 1) (pos 2)) → o ≡ in_range (rounded s 2)
half_in_range o z p s none same exact = in_range_from_exact o _ exact ∙ ap in_range (half_is z p s none same)
