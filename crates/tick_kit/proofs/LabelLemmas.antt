-- Numbers in units of their decimals.
use Rattle.std.proofs.Common.{ℕ, suc, ◌^◌, ◌<◌, ◌≤◌, ℤ, pos, negsuc, neg_ℤ, ◌*ℤ◌, ◌≤ℤ◌, ◌+◌, ◌%◌, List, [], ◌∷◌, ◌++◌, arith}
use Rattle.std.proofs.lemmas.Int.{ints}
use Rattle.std.proofs.Math.Nat.{pow-le-pow_right, mul-le-mul_left, mul-le-mul_right}
use Rattle.fixed_num.specs.Number.{limit, million, IsNumber}
use Rattle.fixed_num.proofs.LawLemmas.{rounded_keeps_order, rounded_is_exact}
use Rattle.std.specs.Prelude.{EachIndex, slice_index}
use Rattle.std.specs.Fmt.{decimal}
use Rattle.std.proofs.lemmas.Fmt.{decimal_by_steps_wide}
use Rattle.std.proofs.lemmas.Grind.{common_steps}
use Rattle.tick_kit.specs.Labels.{in_units}

low_product : (v : ℤ) (n : ℕ) → neg_ℤ (pos limit) ≤ℤ v → n ≤ million → (neg_ℤ (pos limit) *ℤ pos million) ≤ℤ (v *ℤ pos n)
low_product (pos a) n low h = omega (arith, ints)
low_product (negsuc a) n low h =
    let most : suc a ≤ limit = omega (arith, ints, low) in
    omega (arith, ints, mul-le-mul_right n most, mul-le-mul_left limit h)

high_product : (v : ℤ) (n : ℕ) → v ≤ℤ pos limit → n ≤ million → (v *ℤ pos n) ≤ℤ (pos limit *ℤ pos million)
high_product (pos a) n high h =
    let most : a ≤ limit = omega (arith, ints, high) in
    omega (arith, ints, mul-le-mul_right n most, mul-le-mul_left limit h)
high_product (negsuc a) n high h = omega (arith, ints)

pub units_in_range : (v : ℤ) (decimals : ℕ) → IsNumber v → decimals ≤ 6 → IsNumber (in_units decimals v)
units_in_range v decimals is h =
    let ten : 0 < 10 = omega arith in
    let units : 10 ^ decimals ≤ million = pow-le-pow_right ten h in
    let some : 0 < million = omega arith in
    let least = rounded_keeps_order (neg_ℤ (pos limit) *ℤ pos million) (v *ℤ pos (10 ^ decimals)) million (low_product v (10 ^ decimals) is.0 units) in
    let most = rounded_keeps_order (v *ℤ pos (10 ^ decimals)) (pos limit *ℤ pos million) million (high_product v (10 ^ decimals) is.1 units) in
    let first = rounded_is_exact (neg_ℤ (pos limit)) million some in
    let last = rounded_is_exact (pos limit) million some in
    (omega (arith, ints, least, first), omega (arith, ints, most, last))

-- what is written of a whole number is digits alone
abbrev IsDigit : ℕ → Type 0
IsDigit b = (48 ≤ b) × (b ≤ 57)

one_more_digit : (ds : List ℕ) (d : ℕ) → d < 10 → EachIndex ds (λ k. IsDigit (slice_index ds k))
    → EachIndex (ds ++ (48 + d) ∷ []) (λ k. IsDigit (slice_index (ds ++ (48 + d) ∷ []) k))
one_more_digit ds d small each k h = grind (arith, common_steps)

pub decimal_digits : (n : ℕ) → n ≤ limit → EachIndex (decimal n) (λ k. IsDigit (slice_index (decimal n) k))
decimal_digits n h =
    decimal_by_steps_wide (λ m ds. EachIndex ds (λ k. IsDigit (slice_index ds k)))
    (λ m small k below. one_more_digit [] m small (λ j l. absurd (omega (arith, l))) k below)
    (λ m ds ten each. one_more_digit ds (m % 10) (omega arith) each)
    n (omega (arith, h))
