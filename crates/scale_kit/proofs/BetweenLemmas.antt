-- What lies between two ends, and what is in range there.
use Rattle.std.proofs.Common.{◌≡◌, ◌<◌, ℕ, negsuc, unsigned_abs, ◌⊎◌, inl, inr, ⊎_elim, ℤ, pos, ◌+ℤ◌, ◌-ℤ◌, ◌≤ℤ◌, Bool, true}
use Rattle.std.proofs.Common.{false, arith, refl}
use Rattle.std.specs.Prelude.{int_le}
use Rattle.std.proofs.lemmas.Int.{ints}
use Rattle.fixed_num.specs.Number.{IsNumber}
use Rattle.scale_kit.specs.Scale.{IsRange}
use Rattle.scale_kit.specs.inner.Between.{IsBetween}

by_test : (a b : ℤ) (t : Bool) → int_le a b ≡ t → (a ≤ℤ b) ⊎ (b ≤ℤ a)
by_test a b true e = inl (grind (arith, ints))
by_test a b false e = inr (grind (arith, ints))

-- two numbers stand in one order or the other
pub either_order : (a b : ℤ) → (a ≤ℤ b) ⊎ (b ≤ℤ a)
either_order a b = by_test a b _ refl

-- what lies on the way along a range lies between its ends
pub moved_within : (r0 r1 z : ℤ) → IsBetween (pos 0) (r1 -ℤ r0) z → IsBetween r0 r1 (r0 +ℤ z)
moved_within r0 r1 z within = record {
  up = λ up. let w = within.up (omega (arith, ints)) in (omega (arith, ints, w), omega (arith, ints, w));
  down = λ down. let w = within.down (omega (arith, ints)) in (omega (arith, ints, w), omega (arith, ints, w));
}

-- a way along a range is a number, and so is a place on it
pub way_is_number : (r0 r1 z : ℤ) → IsRange (r0, r1) → IsBetween (pos 0) (r1 -ℤ r0) z → IsNumber z
way_is_number r0 r1 z range within =
    ⊎_elim
    (λ (up : r0 ≤ℤ r1). let w = within.up (omega (arith, ints)) in (omega (arith, ints, w, range), omega (arith, ints, w, range)))
    (λ (down : r1 ≤ℤ r0). let w = within.down (omega (arith, ints)) in (omega (arith, ints, w, range), omega (arith, ints, w, range)))
    (either_order r0 r1)

pub place_is_number : (r0 r1 z : ℤ) → IsRange (r0, r1) → IsBetween r0 r1 z → IsNumber z
place_is_number r0 r1 z range within =
    ⊎_elim (λ (up : r0 ≤ℤ r1). let w = within.up up in (omega (arith, ints, w, range), omega (arith, ints, w, range)))
    (λ (down : r1 ≤ℤ r0). let w = within.down down in (omega (arith, ints, w, range), omega (arith, ints, w, range))) (either_order r0 r1)

-- what lies between two bytes is one
byte_above : (b : ℕ) (z : ℤ) → b < 256 → pos 0 ≤ℤ z → z ≤ℤ pos b → unsigned_abs z < 256
byte_above b (pos n) small low high = omega (arith, ints, high)
byte_above b (negsuc n) small low high = absurd (omega (arith, ints, low))

pub byte_between : (a b : ℕ) (z : ℤ) → a < 256 → b < 256 → IsBetween (pos a) (pos b) z → unsigned_abs z < 256
byte_between a b z one other within =
    ⊎_elim (λ (up : pos a ≤ℤ pos b). let w = within.up up in byte_above b z other (omega (arith, ints, w)) w.1)
    (λ (down : pos b ≤ℤ pos a). let w = within.down down in byte_above a z one (omega (arith, ints, w)) w.1) (either_order (pos a) (pos b))
