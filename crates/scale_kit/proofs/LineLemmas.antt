-- Quotients by a number above zero, and products in either order.
use Rattle.std.proofs.Common.{◌≡◌, ℤ, pos, negsuc, ◌+ℤ◌, ◌-ℤ◌, ◌*ℤ◌, ◌<ℤ◌, true, false, int_lt, unsigned_abs}
use Rattle.std.proofs.Common.{arith, refl, sym, ap, ◌∙◌, int_cmp, is_lt, cond, Less, Equal, Greater, Bool}
use Rattle.std.proofs.lemmas.Int.{ints}
use Rattle.std.proofs.Math.IntN.{*ℤ_comm, *ℤ-one}
use lib.IntN.{one}
use Rattle.fixed_num.specs.Number.{rounded, rounded_ratio}
use Rattle.scale_kit.specs.Lines.{middle, place_of_number}

-- a ratio by a number above zero is a quotient
pub rounded_ratio_above : (p q : ℤ) → pos 0 <ℤ q → rounded_ratio p q ≡ rounded p (unsigned_abs q)
unfolding rounded_ratio
rounded_ratio_above p (pos q) h = refl
rounded_ratio_above p (negsuc q) h = absurd (omega (arith, ints))

pub times_one : (z : ℤ) → z *ℤ pos 1 ≡ z
unfolding one
times_one z = *ℤ-one z

-- the place of a number in a domain of more than one point, and of one point
pub place_in_span : (domain range : ℤ × ℤ) (v : ℤ) → int_lt domain.0 domain.1 ≡ true → place_of_number domain range v
    ≡ range.0 +ℤ rounded ((v -ℤ domain.0) *ℤ (range.1 -ℤ range.0)) (unsigned_abs (domain.1 -ℤ domain.0))
place_in_span domain range v e = rw e refl

pub place_in_point : (domain range : ℤ × ℤ) (v : ℤ) → int_lt domain.0 domain.1 ≡ false → place_of_number domain range v ≡ middle range
place_in_point domain range v e = rw e refl

-- as a ratio, and as a share of the range
pub place_by_ratio : (domain range : ℤ × ℤ) (v : ℤ) → int_lt domain.0 domain.1 ≡ true
    → range.0 +ℤ rounded_ratio ((v -ℤ domain.0) *ℤ (range.1 -ℤ range.0)) (domain.1 -ℤ domain.0) ≡ place_of_number domain range v
place_by_ratio domain range v e =
    ap (λ z. range.0 +ℤ z) (rounded_ratio_above _ (domain.1 -ℤ domain.0) (grind (arith, ints))) ∙ sym (place_in_span domain range v e)

pub place_by_share : (domain range : ℤ × ℤ) (v : ℤ) → int_lt domain.0 domain.1 ≡ true
    → range.0 +ℤ rounded ((range.1 -ℤ range.0) *ℤ (v -ℤ domain.0)) (unsigned_abs (domain.1 -ℤ domain.0)) ≡ place_of_number domain range v
place_by_share domain range v e =
    ap (λ z. range.0 +ℤ rounded z (unsigned_abs (domain.1 -ℤ domain.0))) (*ℤ_comm (range.1 -ℤ range.0) (v -ℤ domain.0))
    ∙ sym (place_in_span domain range v e)

-- the test of an order on numbers
lt_by_tests : (below above : Bool) → is_lt (cond below Less (cond above Greater Equal)) ≡ below
lt_by_tests true above = refl
lt_by_tests false true = refl
lt_by_tests false false = refl

pub lt_test : (a b : ℤ) → is_lt (int_cmp a b) ≡ int_lt a b
lt_test a b = lt_by_tests (int_lt a b) (int_lt b a)
