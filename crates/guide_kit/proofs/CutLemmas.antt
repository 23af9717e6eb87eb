-- Sums that are cut.
use Rattle.std.proofs.Common.{◌≡◌, ℤ, pos, neg_ℤ, ◌+ℤ◌, ◌-ℤ◌, ◌≤ℤ◌, ◌<ℤ◌, Bool, true, false, not, refl, ◌∙◌, arith}
use Rattle.std.specs.Prelude.{int_lt}
use Rattle.std.proofs.lemmas.Int.{ints, clamps}
use Rattle.fixed_num.specs.Number.{limit, IsNumber, signed}
use Rattle.guide_kit.specs.Measures.{cut_place, plus, minus}

-- what tests of order say
is_below : (z y : ℤ) → int_lt z y ≡ true → z <ℤ y
is_below z y e = grind (arith, ints)

is_not_below : (z y : ℤ) → int_lt z y ≡ false → y ≤ℤ z
is_not_below z y e = grind (arith, ints)

within : (z : ℤ) → IsNumber z → z ≡ cut_place z
within z is = omega (arith, ints, clamps, is.0, is.1)

beyond_below : (z : ℤ) → (IsNumber z → ⊥) → z ≤ℤ pos limit → neg_ℤ (pos limit) ≡ cut_place z
beyond_below z isnt most = by_test (int_lt z (neg_ℤ (pos limit))) refl
  where
    by_test : (b : Bool) → int_lt z (neg_ℤ (pos limit)) ≡ b → neg_ℤ (pos limit) ≡ cut_place z
    by_test true e = let under = is_below z (neg_ℤ (pos limit)) e in omega (arith, ints, clamps, under)
    by_test false e = absurd (isnt (is_not_below z (neg_ℤ (pos limit)) e, most))

beyond_above : (z : ℤ) → (IsNumber z → ⊥) → neg_ℤ (pos limit) ≤ℤ z → pos limit ≡ cut_place z
beyond_above z isnt least = by_test (int_lt (pos limit) z) refl
  where
    by_test : (b : Bool) → int_lt (pos limit) z ≡ b → pos limit ≡ cut_place z
    by_test true e = let over = is_below (pos limit) z e in omega (arith, ints, clamps, over)
    by_test false e = absurd (isnt (least, is_not_below (pos limit) z e))

pub sum_within : (a b s : ℤ) → IsNumber (a +ℤ b) → s ≡ a +ℤ b → s ≡ plus a b
unfolding plus
sum_within a b s is same = same ∙ within (a +ℤ b) is

sum_cut : (a b : ℤ) (t : Bool) → int_lt b (pos 0) ≡ t → IsNumber a → (IsNumber (a +ℤ b) → ⊥) → signed t limit ≡ cut_place (a +ℤ b)
sum_cut a b true e is isnt =
    let down = is_below b (pos 0) e in beyond_below (a +ℤ b) isnt (omega (arith, ints, down, is.1))
sum_cut a b false e is isnt =
    let up = is_not_below b (pos 0) e in beyond_above (a +ℤ b) isnt (omega (arith, ints, up, is.0))

pub sum_beyond : (a b : ℤ) → IsNumber a → (IsNumber (a +ℤ b) → ⊥) → signed (int_lt b (pos 0)) limit ≡ plus a b
unfolding plus
sum_beyond a b is isnt = sum_cut a b (int_lt b (pos 0)) refl is isnt

pub difference_within : (a b s : ℤ) → IsNumber (a -ℤ b) → s ≡ a -ℤ b → s ≡ minus a b
unfolding minus
difference_within a b s is same = same ∙ within (a -ℤ b) is

difference_cut : (a b : ℤ) (t : Bool) → int_lt b (pos 0) ≡ t → IsNumber a → (IsNumber (a -ℤ b) → ⊥) → signed (not t) limit ≡ cut_place (a -ℤ b)
difference_cut a b true e is isnt =
    let down = is_below b (pos 0) e in beyond_above (a -ℤ b) isnt (omega (arith, ints, down, is.0))
difference_cut a b false e is isnt =
    let up = is_not_below b (pos 0) e in beyond_below (a -ℤ b) isnt (omega (arith, ints, up, is.1))

pub difference_beyond : (a b : ℤ) → IsNumber a → (IsNumber (a -ℤ b) → ⊥) → signed (not (int_lt b (pos 0))) limit ≡ minus a b
unfolding minus
difference_beyond a b is isnt = difference_cut a b (int_lt b (pos 0)) refl is isnt
