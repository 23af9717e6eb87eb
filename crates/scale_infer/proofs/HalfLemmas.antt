-- Half of a number.
use Rattle.std.proofs.Common.{◌≡◌, ℤ, pos, neg_ℤ, ◌+ℤ◌, ◌*ℤ◌, ◌*◌, ◌^◌, ◌≤ℤ◌, Option, Some, None, arith, ap, sym, subst, ◌∙◌}
use Rattle.std.specs.Option.{SomeIff}
use Rattle.std.proofs.lemmas.Int.{ints}
use Rattle.fixed_num.specs.Number.{limit, IsNumber, rounded, rounded_ratio, floor_quotient}
use Rattle.fixed_num.proofs.LawLemmas.{rounded_keeps_order}

-- half of the greatest number
abbrev half_limit : ℤ
half_limit = pos (5 * 10 ^ 20)

low_half : (n : ℤ) → neg_ℤ (pos limit) ≤ℤ n → neg_ℤ half_limit ≤ℤ rounded n 2
unfolding rounded floor_quotient
low_half n least = rounded_keeps_order (neg_ℤ (pos limit)) n 2 least

high_half : (n : ℤ) → n ≤ℤ pos limit → rounded n 2 ≤ℤ half_limit
unfolding rounded floor_quotient
high_half n most = rounded_keeps_order n (pos limit) 2 most

half_is_number : (n : ℤ) → IsNumber n → IsNumber (rounded n 2)
half_is_number n (least, most) = (omega (arith, ints, low_half n least), omega (arith, ints, high_half n most))

onto_zero : (n : ℤ) → pos 0 +ℤ n ≡ n
onto_zero n = omega (arith, ints)

one_time : (n : ℤ) → n *ℤ pos 1 ≡ n
one_time n = omega (arith, ints)

half_is : (z p n : ℤ) → z ≡ pos 0 → p ≡ n → z +ℤ rounded_ratio (p *ℤ pos 1) (pos 2) ≡ rounded n 2
unfolding rounded_ratio
half_is z p n none same =
    (λ i. none i +ℤ rounded (same i *ℤ pos 1) 2) ∙ onto_zero (rounded (n *ℤ pos 1) 2) ∙ ap (λ m. rounded m 2) (one_time n)

-- an answer that is exact at the half of a number is that half
pub half_is_some : (o : Option ℤ) (z p n : ℤ) → z ≡ pos 0 → p ≡ n → IsNumber n
    → SomeIff o (IsNumber (z +ℤ rounded_ratio (p *ℤ pos 1) (pos 2))) (z +ℤ rounded_ratio (p *ℤ pos 1) (pos 2)) → o ≡ Some (rounded n 2)
half_is_some None z p n none same is exact = absurd (exact (subst IsNumber (sym (half_is z p n none same)) (half_is_number n is)))
half_is_some (Some x) z p n none same is exact = ap Some (exact.1 ∙ half_is z p n none same)
