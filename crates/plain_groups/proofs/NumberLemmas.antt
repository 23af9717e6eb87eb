-- Sums, means and roundings of numbers.
use Rattle.std.proofs.Common.{◌≡◌, ℕ, ◌+◌, ◌*◌, ◌<◌, ◌≤◌, ℤ, pos, negsuc, neg_ℤ, ◌+ℤ◌, ◌*ℤ◌, ◌≤ℤ◌, List, drop, length, get_or, unsigned_abs}
use Rattle.std.proofs.Common.{arith, refl, sym, ap, ap₂, ◌∙◌, subst}
use Rattle.std.proofs.lemmas.Int.{ints}
use Rattle.std.proofs.lemmas.List.{drop_more}
use Rattle.std.specs.Int.{int_div_euclid}
use Rattle.fixed_num.specs.Number.{limit, IsNumber, rounded, floor_quotient}
use Rattle.fixed_num.proofs.LawLemmas.{rounded_keeps_order, rounded_is_exact}
use Rattle.plain_groups.specs.Aggregates.{sum_of}

-- one number less is left
pub sum_left : (ns : List ℤ) (i : ℕ) (n : ℤ) → i < length ns → n ≡ get_or ns i n → sum_of (drop i ns) ≡ n +ℤ sum_of (drop (i + 1) ns)
sum_left ns i n l at = ap sum_of (drop_more ns i n l) ∙ ap (λ x. x +ℤ sum_of (drop (i + 1) ns)) (sym at)

euclid_floors : (z : ℤ) (q : ℕ) → int_div_euclid z (pos q) ≡ floor_quotient z q
unfolding floor_quotient
euclid_floors (pos n) q = refl
euclid_floors (negsuc n) q = refl

-- the quotient of twice p and q by twice q is p by q, rounded
pub quotient_rounds : (p a b r : ℤ) (q : ℕ) → r ≡ int_div_euclid a b → a ≡ pos 2 *ℤ p +ℤ pos q → b ≡ pos (2 * q) → r ≡ rounded p q
unfolding rounded
quotient_rounds p a b r q e first second =
    e ∙ ap₂ int_div_euclid first second ∙ euclid_floors (pos 2 *ℤ p +ℤ pos q) (2 * q)

-- the mean of q numbers is a number
pub rounded_is_number : (p : ℤ) (q : ℕ) → 0 < q → unsigned_abs p ≤ q * limit → IsNumber (rounded p q)
rounded_is_number p q h small =
    let low : (neg_ℤ (pos limit) *ℤ pos q) ≤ℤ p = omega (arith, ints, small) in
    let high : p ≤ℤ (pos limit *ℤ pos q) = omega (arith, ints, small) in (
      subst (λ z. z ≤ℤ rounded p q) (rounded_is_exact (neg_ℤ (pos limit)) q h) (rounded_keeps_order (neg_ℤ (pos limit) *ℤ pos q) p q low),
      subst (λ z. rounded p q ≤ℤ z) (rounded_is_exact (pos limit) q h) (rounded_keeps_order p (pos limit *ℤ pos q) q high),
    )
