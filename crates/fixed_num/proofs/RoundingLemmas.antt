-- How the rules of rounding follow from quotients and remainders of natural numbers.
use Rattle.std.proofs.Common.{◌≡◌, ℕ, ◌+◌, ◌-◌, ◌*◌, ◌/◌, ◌<◌, ◌≤◌, zero, suc, ℤ, pos, negsuc, neg_ℤ, ◌+ℤ◌, ◌-ℤ◌, ◌<ℤ◌, ◌≤ℤ◌, ◌*ℤ◌, Bool}
use Rattle.std.proofs.Common.{true, false, unsigned_abs, ⊎_elim, subst, Option, arith, refl, ap, ◌∙◌}
use Rattle.std.specs.Int.{int_rem_euclid}
use Rattle.std.specs.Option.{SomeIff}
use Rattle.std.proofs.lemmas.Int.{ints}
use Rattle.std.proofs.lemmas.Nat.{div-mul-add, mul-le}
use Rattle.std.proofs.lemmas.Bool.{cases_lt}
use Rattle.std.proofs.Math.Nat.{div-add-mod', suc-mul}
use Rattle.std.proofs.Math.Nat.{div-eq_of_lt}
use Rattle.fixed_num.specs.Number.{floored, floor_quotient, rounded, signed, IsNumber, limit, IsRoot, million}

-- a number less its remainder is the multiple below it
pub floored_from_remainder : (m s : ℤ) → pos 0 <ℤ s → m -ℤ int_rem_euclid m s ≡ floored m s
unfolding floored floor_quotient
floored_from_remainder (pos n) (pos d) h = omega (arith, ints, div-add-mod' n d)
floored_from_remainder (negsuc n) (pos d) h = omega (arith, ints, div-add-mod' n d, suc-mul (n / d) d)
floored_from_remainder m (negsuc d) h = absurd (omega (arith, ints))

-- an answer that is exact at a number is exact at one equal to it
pub exact_at : (o : Option ℤ) (x y : ℤ) → SomeIff o (IsNumber x) x → x ≡ y → SomeIff o (IsNumber y) y
exact_at o x y h e = subst (λ z. SomeIff o (IsNumber z) z) e h

-- k times q, and a rest
floor_above : (k q r : ℕ) (z : ℤ) → z ≡ pos (k * q + r) → r < q → floor_quotient z q ≡ pos k
unfolding floor_quotient
floor_above k q r (pos n) e h =
    let parts : n ≡ k * q + r = omega (arith, ints, e) in ap pos (ap (λ x. x / q) parts ∙ div-mul-add k q r h)
floor_above k q r (negsuc n) e h = absurd (omega (arith, ints, e))

-- k times q below zero, and a rest
floor_below : (k q r : ℕ) (z : ℤ) → z +ℤ pos (k * q) ≡ pos r → r < q → floor_quotient z q ≡ neg_ℤ (pos k)
unfolding floor_quotient
floor_below zero q r (pos n) e h =
    let small : n < q = omega (arith, ints, e) in ap pos (div-eq_of_lt small)
floor_below zero q r (negsuc n) e h = absurd (omega (arith, ints, e))
floor_below (suc k) q r (pos n) e h = absurd (omega (arith, ints, e, suc-mul k q))
floor_below (suc k) q r (negsuc n) e h =
    let parts : n ≡ k * q + (q - 1 - r) = omega (arith, ints, e, suc-mul k q) in
    ap negsuc (ap (λ x. x / q) parts ∙ div-mul-add k q (q - 1 - r) (omega arith))

-- what a quotient w and its remainder r by d round to, on both sides of zero
pub rounded_up : (w r d : ℕ) → r < d → d ≤ 2 * r → rounded (pos (w * d + r)) d ≡ pos (w + 1)
unfolding rounded
rounded_up w r d h p = floor_above (w + 1) (2 * d) (2 * r - d) _ (ap pos (omega arith)) (omega arith)

pub rounded_down : (w r d : ℕ) → r < d → 2 * r < d → rounded (pos (w * d + r)) d ≡ pos w
unfolding rounded
rounded_down w r d h p = floor_above w (2 * d) (2 * r + d) _ (ap pos (omega arith)) (omega arith)

pub rounded_away : (w r d : ℕ) → r < d → d < 2 * r → rounded (neg_ℤ (pos (w * d + r))) d ≡ neg_ℤ (pos (w + 1))
unfolding rounded
rounded_away w r d h p = floor_below (w + 1) (2 * d) (3 * d - 2 * r) _ (omega (arith, ints)) (omega arith)

pub rounded_toward : (w r d : ℕ) → r < d → 2 * r ≤ d → rounded (neg_ℤ (pos (w * d + r))) d ≡ neg_ℤ (pos w)
unfolding rounded
rounded_toward w r d h p = floor_below w (2 * d) (d - 2 * r) _ (omega (arith, ints)) (omega arith)

pub size_in_range : (m : ℤ) → IsNumber m → unsigned_abs m ≤ limit
size_in_range (pos n) h = omega (arith, ints, h)
size_in_range (negsuc n) h = omega (arith, ints, h)

pub size_below : (k : ℕ) → unsigned_abs (neg_ℤ (pos k)) ≡ k
size_below zero = refl
size_below (suc k) = refl

-- rounding leads no nearer to zero than the quotient
pub size_of_rounded : (below_zero : Bool) (w r d : ℕ) → r < d → w ≤ unsigned_abs (rounded (signed below_zero (w * d + r)) d)
size_of_rounded false w r d h =
    ⊎_elim (λ (p : 2 * r < d). omega (arith, ap unsigned_abs (rounded_down w r d h p)))
    (λ (p : d ≤ 2 * r). omega (arith, ap unsigned_abs (rounded_up w r d h p))) (cases_lt (2 * r) d)
size_of_rounded true w r d h =
    ⊎_elim (λ (p : d < 2 * r). omega (arith, ap unsigned_abs (rounded_away w r d h p), size_below (w + 1)))
    (λ (p : 2 * r ≤ d). omega (arith, ap unsigned_abs (rounded_toward w r d h p), size_below w)) (cases_lt d (2 * r))

pub ruleset nearest = (rounded_up, rounded_down, rounded_away, rounded_toward)

greatest_root : (n r : ℕ) (u : ℤ) → n < (r + 1) * (r + 1) → (u *ℤ u) ≤ℤ pos n → u ≤ℤ pos r
greatest_root n r (negsuc a) high h = omega (arith, ints)
greatest_root n r (pos a) high h =
    ⊎_elim (λ (p : r < a). absurd (omega (arith, ints, h, mul-le (r + 1) (r + 1) a a (omega arith) (omega arith))))
    (λ (p : a ≤ r). omega (arith, ints)) (cases_lt r a)

-- a square root of whole numbers is one of numbers
pub root_from_squares : (m : ℤ) (n r : ℕ) → m *ℤ pos million ≡ pos n → r * r ≤ n → n < (r + 1) * (r + 1) → IsRoot m (pos r)
root_from_squares m n r e low high = record {
  not_below_zero = omega (arith, ints);
  within = rw e (omega (arith, ints));
  greatest = λ u h. greatest_root n r u high (rw e at h);
}
