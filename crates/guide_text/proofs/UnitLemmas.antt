-- Millionths, rounded to whole units.
use Rattle.std.proofs.Common.{◌≡◌, ℕ, zero, ◌+◌, ◌*◌, ◌/◌, ◌%◌, ◌^◌, ◌<◌, ◌≤◌, ℤ, pos, negsuc, neg_ℤ, ◌*ℤ◌, ◌<ℤ◌, unsigned_abs, suc, Bool}
use Rattle.std.proofs.Common.{true, false, [], ◌∷◌, ◌++◌, refl, sym, ap, ◌∙◌, subst, arith}
use Rattle.std.specs.Prelude.{int_lt}
use Rattle.std.proofs.lemmas.Int.{ints}
use Rattle.std.proofs.lemmas.Nat.{div_below, pow-add}
use Rattle.std.proofs.Math.Nat.{pow-le-pow_right, mul-le-mul_left, mul-le-mul_right}
use Rattle.fixed_num.specs.Number.{limit, million, rounded, signed}
use Rattle.tick_kit.specs.Labels.{in_units, sign_of}
use Rattle.guide_text.specs.declared.formats.NumberKind.{NumberKind}
use Rattle.guide_text.specs.Numbers.{hundredths, mark_of, size_of, written, written_with}
use Rattle.fixed_num.proofs.DigitLemmas.{ten_pos}
use Rattle.fixed_num.proofs.RoundingLemmas.{rounded_up, rounded_down, rounded_away, rounded_toward}

parts : (n : ℕ) → n / 1000000 * million + n % 1000000 ≡ n
parts n = omega arith

pub up : (n : ℕ) → 500000 ≤ n % 1000000 → rounded (pos n) million ≡ pos (n / 1000000 + 1)
up n h = subst (λ m. rounded (pos m) million ≡ pos (n / 1000000 + 1)) (parts n)
    (rounded_up (n / 1000000) (n % 1000000) million (omega arith) (omega (arith, h)))

pub down : (n : ℕ) → n % 1000000 < 500000 → rounded (pos n) million ≡ pos (n / 1000000)
down n h = subst (λ m. rounded (pos m) million ≡ pos (n / 1000000)) (parts n)
    (rounded_down (n / 1000000) (n % 1000000) million (omega arith) (omega (arith, h)))

pub away : (n : ℕ) → 500000 < n % 1000000 → rounded (neg_ℤ (pos n)) million ≡ neg_ℤ (pos (n / 1000000 + 1))
away n h = subst (λ m. rounded (neg_ℤ (pos m)) million ≡ neg_ℤ (pos (n / 1000000 + 1))) (parts n)
    (rounded_away (n / 1000000) (n % 1000000) million (omega arith) (omega (arith, h)))

pub toward : (n : ℕ) → n % 1000000 ≤ 500000 → rounded (neg_ℤ (pos n)) million ≡ neg_ℤ (pos (n / 1000000))
toward n h = subst (λ m. rounded (neg_ℤ (pos m)) million ≡ neg_ℤ (pos (n / 1000000))) (parts n)
    (rounded_toward (n / 1000000) (n % 1000000) million (omega arith) (omega (arith, h)))

pub ruleset nearest = (up, down, away, toward)

-- the whole part of so many units is in range
pub whole_in_range : (n k : ℕ) → n < (10 ^ 17 + 2) * 10 ^ k → n / 10 ^ k ≤ limit
whole_in_range n k h = let below : n / 10 ^ k < 10 ^ 17 + 2 = div_below n (10 ^ k) (10 ^ 17 + 2) (ten_pos k) h in omega arith

-- a product by its sign and its size
below_none : (a : ℕ) → int_lt (pos a) (pos 0) ≡ true → pos a <ℤ pos 0
below_none a e = grind (arith, ints)

product : (v : ℤ) (k : ℕ) (b : Bool) → int_lt v (pos 0) ≡ b → v *ℤ pos k ≡ signed b (unsigned_abs v * k)
product (pos a) k true e = let under = below_none a e in absurd (omega (arith, ints, under))
product (pos a) k false e = refl
product (negsuc a) k true e = omega (arith, ints)
product (negsuc a) k false e = absurd cc

-- a number in units, by its sign and its size
pub counted : (v : ℤ) (places r : ℕ)
    → rounded (signed (int_lt v (pos 0)) (unsigned_abs v * 10 ^ places)) million ≡ signed (int_lt v (pos 0)) r
    → in_units places v ≡ signed (int_lt v (pos 0)) r
counted v places r e = ap (λ p. rounded p million) (product v (10 ^ places) (int_lt v (pos 0)) refl) ∙ e

-- how great sizes in units are
pub product_in_reach : (n k : ℕ) → n ≤ limit → k ≤ 8 → n * 10 ^ k ≤ 10 ^ 29
product_in_reach n k small few =
    let ten : 0 < 10 = omega arith in
    let power : 10 ^ k ≤ 10 ^ 8 = pow-le-pow_right ten few in
    let most : n * 10 ^ k ≤ n * 10 ^ 8 = mul-le-mul_left n power in
    omega (arith, most, small)

pub units_in_reach : (n k : ℕ) → n ≤ limit → n * 10 ^ k / 1000000 + 1 ≤ 10 ^ 15 * 10 ^ k + 1
units_in_reach n k small = let most : n * 10 ^ k ≤ limit * 10 ^ k = mul-le-mul_right (10 ^ k) small in omega (arith, most)

pub ruleset counting = (counted, product_in_reach, units_in_reach)

pub size_in_reach : (d h r : ℕ) → h ≤ 2 → r ≤ 10 ^ 15 * 10 ^ (d + h) + 1 → r < (10 ^ 17 + 2) * 10 ^ d
size_in_reach d h r few small =
    let ten : 0 < 10 = omega arith in
    let power : 10 ^ h ≤ 100 = pow-le-pow_right ten few in
    let apart : 10 ^ (d + h) ≡ 10 ^ d * 10 ^ h = pow-add 10 d h in
    let most : 10 ^ d * 10 ^ h ≤ 10 ^ d * 100 = mul-le-mul_left (10 ^ d) power in
    omega (arith, apart, most, ten_pos d, small)

-- the sign of a number by its size
pub minus_sign : (n : ℕ) → 0 < n → sign_of (signed true n) ≡ 226 ∷ 136 ∷ 146 ∷ []
minus_sign zero h = absurd (omega (arith, h))
minus_sign (suc n) h = refl

pub no_sign : (n : ℕ) → n ≤ 0 → sign_of (signed true n) ≡ []
no_sign zero h = refl
no_sign (suc n) h = absurd (omega (arith, h))

pub ruleset signs = (minus_sign, no_sign)

size_signed : (b : Bool) (n : ℕ) → unsigned_abs (signed b n) ≡ n
size_signed false n = refl
size_signed true zero = refl
size_signed true (suc n) = refl

-- a number that is written by its sign and its size
pub written_is : (comma : Bool) (kind : NumberKind) (decimals : ℕ) (v : ℤ) (b : Bool) (r : ℕ)
    → in_units (decimals + hundredths kind) v ≡ signed b r
    → sign_of (signed b r) ++ size_of comma decimals r ++ mark_of kind ≡ written_with comma kind decimals v
written_is comma kind decimals v b r e =
    sym (ap (written comma kind decimals) e ∙ ap (λ n. sign_of (signed b r) ++ size_of comma decimals n ++ mark_of kind) (size_signed b r))
