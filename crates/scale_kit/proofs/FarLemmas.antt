-- Where a number out of range lies beyond a domain.
use Rattle.std.proofs.Common.{◌≡◌, ℕ, ◌+◌, ◌<◌, ℤ, pos, negsuc, neg_ℤ, ◌+ℤ◌, ◌-ℤ◌, ◌*ℤ◌, ◌<ℤ◌, ◌≤ℤ◌, None, arith, refl, sym, ◌∙◌}
use Rattle.std.proofs.Common.{◌≢◌, subst}
use Rattle.std.proofs.lemmas.Int.{ints}
use Rattle.std.specs.Prelude.{Bool, int_lt}
use Rattle.std.specs.Int.{int_min, int_max}
use Rattle.fixed_num.specs.Number.{IsNumber, rounded, rounded_ratio}
use Rattle.fixed_num.specs.Ranges.{in_range}
use Rattle.fixed_num.proofs.RangeLemmas.{in_range_at_number}
use Rattle.fixed_num.proofs.LawLemmas.{rounded_keeps_order, rounded_is_exact}
use Rattle.scale_kit.specs.Lines.{number_at_place, cut_to}

-- products by a number from zero on
product_up : (a b : ℤ) → pos 0 ≤ℤ a → pos 0 ≤ℤ b → pos 0 ≤ℤ (a *ℤ b)
product_up (pos m) (pos n) h k = omega (arith, ints)
product_up (negsuc m) b h k = absurd (omega (arith, ints))
product_up (pos m) (negsuc n) h k = absurd (omega (arith, ints))

product_down : (a b : ℤ) → a ≤ℤ pos 0 → pos 0 ≤ℤ b → (a *ℤ b) ≤ℤ pos 0
product_down (negsuc m) (pos n) h k = omega (arith, ints)
product_down (pos m) (pos n) h k =
    let none : m ≡ 0 = omega (arith, ints) in subst (λ x. (pos x *ℤ pos n) ≤ℤ pos 0) (sym none) (omega (arith, ints))
product_down (pos m) (negsuc n) h k = absurd (omega (arith, ints))
product_down (negsuc m) (negsuc n) h k = absurd (omega (arith, ints))

-- quotients by a number above zero
quotient_up : (z : ℤ) (q : ℕ) → 0 < q → pos 0 ≤ℤ z → pos 0 ≤ℤ rounded z q
quotient_up z q some h =
    let none : rounded (pos 0 *ℤ pos q) q ≡ pos 0 = rounded_is_exact (pos 0) q some in
    let less : (pos 0 *ℤ pos q) ≤ℤ z = omega (arith, ints) in
    rw none at (rounded_keeps_order (pos 0 *ℤ pos q) z q less)

quotient_down : (z : ℤ) (q : ℕ) → 0 < q → z ≤ℤ pos 0 → rounded z q ≤ℤ pos 0
quotient_down z q some h =
    let none : rounded (pos 0 *ℤ pos q) q ≡ pos 0 = rounded_is_exact (pos 0) q some in
    let less : z ≤ℤ (pos 0 *ℤ pos q) = omega (arith, ints) in
    rw none at (rounded_keeps_order z (pos 0 *ℤ pos q) q less)

-- a ratio is not below zero where both its sides are on one side of zero, and not above where they are not
ratio_ahead : (z r : ℤ) → pos 0 <ℤ r → pos 0 ≤ℤ z → pos 0 ≤ℤ rounded_ratio z r
unfolding rounded_ratio
ratio_ahead z (pos q) h k = quotient_up z q (omega (arith, ints, h)) k
ratio_ahead z (negsuc n) h k = absurd (omega (arith, ints))

ratio_back : (z r : ℤ) → pos 0 <ℤ r → z ≤ℤ pos 0 → rounded_ratio z r ≤ℤ pos 0
unfolding rounded_ratio
ratio_back z (pos q) h k = quotient_down z q (omega (arith, ints, h)) k
ratio_back z (negsuc n) h k = absurd (omega (arith, ints))

ratio_both_back : (z r : ℤ) → r <ℤ pos 0 → z ≤ℤ pos 0 → pos 0 ≤ℤ rounded_ratio z r
unfolding rounded_ratio
ratio_both_back z (pos q) h k = absurd (omega (arith, ints))
ratio_both_back z (negsuc n) h k = quotient_up (neg_ℤ z) (n + 1) (omega arith) (omega (arith, ints, k))

ratio_ahead_back : (z r : ℤ) → r <ℤ pos 0 → pos 0 ≤ℤ z → rounded_ratio z r ≤ℤ pos 0
unfolding rounded_ratio
ratio_ahead_back z (pos q) h k = absurd (omega (arith, ints))
ratio_ahead_back z (negsuc n) h k = quotient_down (neg_ℤ z) (n + 1) (omega arith) (omega (arith, ints, k))

-- a number out of range, on one side of a domain or on the other, is cut to the end there
not_number : (z : ℤ) → in_range z ≡ None → IsNumber z → ⊥
not_number z none there = absurd (cc (sym none ∙ in_range_at_number z there))

beyond_end : (d0 d1 w : ℤ) → IsNumber d0 → IsNumber d1 → d0 ≤ℤ d1 → pos 0 ≤ℤ w → (IsNumber (d0 +ℤ w) → ⊥)
    → int_max d0 (int_min (d0 +ℤ w) d1) ≡ d1
beyond_end d0 d1 w from to rising up out = grind (arith, ints)

before_beginning : (d0 d1 w : ℤ) → IsNumber d0 → IsNumber d1 → d0 ≤ℤ d1 → w ≤ℤ pos 0 → (IsNumber (d0 +ℤ w) → ⊥)
    → int_max d0 (int_min (d0 +ℤ w) d1) ≡ d0
before_beginning d0 d1 w from to rising down out = grind (arith, ints)

-- the end of a domain to which the number at a place is cut, by the side of the range's beginning on which the place lies
module _ (domain range : ℤ × ℤ) (p : ℤ) (from : IsNumber domain.0) (to : IsNumber domain.1) (rising : domain.0 ≤ℤ domain.1)
    (none : in_range (number_at_place domain range p) ≡ None) where
  span : pos 0 ≤ℤ (domain.1 -ℤ domain.0)
  span = omega (arith, ints, rising)

  pub ahead : range.0 <ℤ range.1 → range.0 ≤ℤ p → domain.1 ≡ cut_to domain (number_at_place domain range p)
  ahead h k =
      sym (beyond_end domain.0 domain.1 _ from to rising
      (ratio_ahead _ (range.1 -ℤ range.0) (omega (arith, ints, h)) (product_up (p -ℤ range.0) _ (omega (arith, ints, k)) span))
      (not_number _ none))

  pub back : range.0 <ℤ range.1 → p ≤ℤ range.0 → domain.0 ≡ cut_to domain (number_at_place domain range p)
  back h k =
      sym (before_beginning domain.0 domain.1 _ from to rising
      (ratio_back _ (range.1 -ℤ range.0) (omega (arith, ints, h)) (product_down (p -ℤ range.0) _ (omega (arith, ints, k)) span))
      (not_number _ none))

  pub ahead_down : range.1 <ℤ range.0 → range.0 ≤ℤ p → domain.0 ≡ cut_to domain (number_at_place domain range p)
  ahead_down h k =
      sym (before_beginning domain.0 domain.1 _ from to rising
      (ratio_ahead_back _ (range.1 -ℤ range.0) (omega (arith, ints, h)) (product_up (p -ℤ range.0) _ (omega (arith, ints, k)) span))
      (not_number _ none))

  pub back_down : range.1 <ℤ range.0 → p ≤ℤ range.0 → domain.1 ≡ cut_to domain (number_at_place domain range p)
  back_down h k =
      sym (beyond_end domain.0 domain.1 _ from to rising
      (ratio_both_back _ (range.1 -ℤ range.0) (omega (arith, ints, h)) (product_down (p -ℤ range.0) _ (omega (arith, ints, k)) span))
      (not_number _ none))

-- two numbers that differ and don't stand in order stand in the other
by_size : (a b : ℤ) (t : Bool) → int_lt a b ≡ t → a ≢ b → b ≤ℤ a → b <ℤ a
by_size a b t e other least = grind (arith, ints)

pub falls : (a b : ℤ) → a ≢ b → b ≤ℤ a → b <ℤ a
falls a b other least = by_size a b _ refl other least
