-- What is in range, and bounds on multiples and rounded quotients.
use Rattle.std.proofs.Common.{◌≡◌, ℕ, ◌+◌, ◌*◌, ◌<◌, ◌/◌, ℤ, pos, negsuc, neg_ℤ, ◌≤ℤ◌, ◌<ℤ◌, ◌+ℤ◌, ◌-ℤ◌, ◌*ℤ◌, unsigned_abs, arith, refl}
use Rattle.std.proofs.Common.{ap, ◌∙◌}
use Rattle.std.proofs.lemmas.Int.{ints}
use Rattle.std.proofs.lemmas.Nat.{div_below, div-mul-add}
use Rattle.std.proofs.Math.Nat.{div-add-mod', suc-mul, div-eq_of_lt}
use Rattle.fixed_num.specs.Number.{floored, ceiled, rounded, floor_quotient}
pub use Rattle.fixed_num.proofs.RangeLemmas.{in_range_at_number}

pub size_of_above : (z : ℤ) → pos 0 ≤ℤ z → z ≡ pos (unsigned_abs z)
size_of_above (pos n) h = refl
size_of_above (negsuc n) h = absurd (omega (arith, ints))

-- the multiple below a number is less than a step away
floored_near : (m s : ℤ) → pos 0 <ℤ s → (floored m s ≤ℤ m) × ((m -ℤ s) <ℤ floored m s)
unfolding floored floor_quotient
floored_near (pos n) (pos s) h = (omega (arith, ints, div-add-mod' n s), omega (arith, ints, div-add-mod' n s))
floored_near (negsuc n) (pos s) h = (
  omega (arith, ints, div-add-mod' n s, suc-mul (n / s) s),
  omega (arith, ints, div-add-mod' n s, suc-mul (n / s) s),
)
floored_near m (negsuc s) h = absurd (omega (arith, ints))

-- and so is the one above it
pub ceiled_near : (m s : ℤ) → pos 0 <ℤ s → (m ≤ℤ ceiled m s) × (ceiled m s <ℤ (m +ℤ s))
unfolding ceiled
ceiled_near m s h = let near = floored_near (neg_ℤ m) s h in (omega (arith, ints), omega (arith, ints))

pub floored_zero : (s : ℕ) → floored (pos 0) (pos s) ≡ pos 0
unfolding floored floor_quotient
floored_zero s = omega (arith, ints, div-add-mod' 0 s)

-- a multiple of a number over that number is whole
pub rounded_multiple : (k q : ℕ) (p : ℤ) → 0 < q → p ≡ pos (k * q) → rounded p q ≡ pos k
unfolding rounded floor_quotient
rounded_multiple k q p h e =
    let sum : pos 2 *ℤ p +ℤ pos q ≡ pos (k * (2 * q) + q) = omega (arith, ints) in
    ap (λ z. floor_quotient z (2 * q)) sum ∙ ap pos (div-mul-add k (2 * q) q (omega arith))

quotient_at_most_0 : (z : ℤ) (q : ℕ) → z <ℤ pos q → floor_quotient z q ≤ℤ pos 0
unfolding floor_quotient
quotient_at_most_0 (pos n) q h = let small : n < q = omega (arith, ints) in omega (arith, ints, div-eq_of_lt small)
quotient_at_most_0 (negsuc n) q h = omega (arith, ints)

quotient_at_least : (z : ℤ) (h q : ℕ) → 0 < q → neg_ℤ (pos (h * q)) ≤ℤ z → neg_ℤ (pos h) ≤ℤ floor_quotient z q
unfolding floor_quotient
quotient_at_least (pos n) h q some low = omega (arith, ints)
quotient_at_least (negsuc n) h q some low = omega (arith, ints, div_below n q h some (omega (arith, ints)))

-- a number from h times another below zero up to zero, over that other, is from -h to 0
pub rounded_within : (p : ℤ) (h q : ℕ) → 0 < q → neg_ℤ (pos (h * q)) ≤ℤ p → p ≤ℤ pos 0
    → (neg_ℤ (pos h) ≤ℤ rounded p q) × (rounded p q ≤ℤ pos 0)
unfolding rounded
rounded_within p h q some low high = (
  quotient_at_least _ h (2 * q) (omega arith) (omega (arith, ints)),
  quotient_at_most_0 _ (2 * q) (omega (arith, ints)),
)
