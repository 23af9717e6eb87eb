-- The half of a size.
use Rattle.std.proofs.Common.{◌≡◌, ℕ, ◌+◌, ◌*◌, ◌/◌, ◌%◌, ℤ, pos, negsuc, neg_ℤ, ◌<ℤ◌, unsigned_abs, Bool, true, false, refl, ap, ◌∙◌, subst, arith}
use Rattle.std.specs.Prelude.{int_lt}
use Rattle.std.proofs.lemmas.Int.{ints}
use Rattle.fixed_num.specs.Number.{rounded, floor_quotient, signed}
use Rattle.fixed_num.proofs.RoundingLemmas.{rounded_toward}

pub half_above : (n : ℕ) → rounded (pos n) 2 ≡ pos ((n + 1) / 2)
unfolding rounded floor_quotient
half_above n = omega (arith, ints)

pub half_below : (n : ℕ) → rounded (neg_ℤ (pos n)) 2 ≡ neg_ℤ (pos (n / 2))
half_below n =
    let parts : n / 2 * 2 + n % 2 ≡ n = omega arith in
    subst (λ m. rounded (neg_ℤ (pos m)) 2 ≡ neg_ℤ (pos (n / 2))) parts
    (rounded_toward (n / 2) (n % 2) 2 (omega arith) (omega arith))

pub ruleset halves = (half_above, half_below)

-- a number by its sign and its size
below_none : (a : ℕ) → int_lt (pos a) (pos 0) ≡ true → pos a <ℤ pos 0
below_none a e = grind (arith, ints)

parts : (z : ℤ) (b : Bool) → int_lt z (pos 0) ≡ b → z ≡ signed b (unsigned_abs z)
parts (pos a) true e = let under = below_none a e in absurd (omega (arith, ints, under))
parts (pos a) false e = refl
parts (negsuc a) true e = refl
parts (negsuc a) false e = absurd cc

pub by_size : (z : ℤ) (r : ℕ) → rounded (signed (int_lt z (pos 0)) (unsigned_abs z)) 2 ≡ signed (int_lt z (pos 0)) r
    → rounded z 2 ≡ signed (int_lt z (pos 0)) r
by_size z r e = ap (λ m. rounded m 2) (parts z (int_lt z (pos 0)) refl) ∙ e
