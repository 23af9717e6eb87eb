-- Quotients of products, taken in two parts.
use Rattle.std.proofs.Common.{◌≡◌, ℕ, ◌+◌, ◌*◌, ◌/◌, ◌%◌, ◌<◌, ◌≤◌, suc, ℤ, pos, negsuc, neg_ℤ, ◌*ℤ◌, Bool, true, false, not, add-one}
use Rattle.std.proofs.Common.{le-ltb, unsigned_abs, arith, sym, refl, ap, ◌∙◌}
use mathlib.Core.Bool.{beq}
use lib.Signed.{lt_z}
use lib.IntN.{neg_ℤ-neg_ℤ}
use Rattle.std.proofs.lemmas.Nat.{div-mul-add, mod-mul-add, div-add-mod', mod_below}
use Rattle.fixed_num.proofs.RoundingLemmas.{size_of_rounded}
use Rattle.fixed_num.specs.Number.{signed, rounded, rounded_ratio}

-- the product from the parts of one factor
product_from_parts : (a b d c high low whole rest more last : ℕ) → high * c + low ≡ b → whole * d + rest ≡ a * high
    → more * d + last ≡ rest * c + a * low → a * b ≡ (whole * c + more) * d + last
product_from_parts a b d c high low whole rest more last e f g =
    omega (arith, ap (λ x. a * x) e, ap (λ x. x * c) f)

product_is : (a b d c : ℕ) → a * b
    ≡ (a * (b / c) / d * c + (a * (b / c) % d * c + a * (b % c)) / d) * d + (a * (b / c) % d * c + a * (b % c)) % d
product_is a b d c =
    product_from_parts a b d c _ _ _ _ _ _ (div-add-mod' b c) (div-add-mod' (a * (b / c)) d)
    (div-add-mod' (a * (b / c) % d * c + a * (b % c)) d)

-- the quotient and the remainder of a product, one factor of which is cut at c
pub quotient_by_parts : (a b d c : ℕ) → 0 < d → a * b / d ≡ a * (b / c) / d * c + (a * (b / c) % d * c + a * (b % c)) / d
quotient_by_parts a b d c h =
    let low = a * (b / c) % d * c + a * (b % c) in
    ap (λ x. x / d) (product_is a b d c) ∙ div-mul-add (a * (b / c) / d * c + low / d) d (low % d) (mod_below low d h)

pub remainder_by_parts : (a b d c : ℕ) → 0 < d → a * b % d ≡ (a * (b / c) % d * c + a * (b % c)) % d
remainder_by_parts a b d c h =
    let low = a * (b / c) % d * c + a * (b % c) in
    ap (λ x. x % d) (product_is a b d c) ∙ mod-mul-add (a * (b / c) / d * c + low / d) d (low % d) (mod_below low d h)

-- the sign of a whole number
abbrev pub is_negative : ℤ → Bool
is_negative (pos n) = false
is_negative (negsuc n) = true

-- whether the quotient of p * q by r is below zero, where it isn't zero
abbrev pub is_below_zero : ℤ → ℤ → ℤ → Bool
is_below_zero p q r = not (beq (not (beq (is_negative p) (is_negative q))) (is_negative r))

negative_is_below : (z : ℤ) → lt_z z (pos 0) ≡ is_negative z
negative_is_below (pos n) = le-ltb n 0 (omega arith)
negative_is_below (negsuc n) = refl

-- a ratio by its sign and its sizes
pub ratio_by_sizes : (p q r : ℤ) → rounded (signed (is_below_zero p q r) (unsigned_abs p * unsigned_abs q)) (unsigned_abs r)
    ≡ rounded_ratio (p *ℤ q) r
unfolding rounded_ratio
ratio_by_sizes (pos a) (pos b) (pos d) = refl
ratio_by_sizes (pos a) (pos b) (negsuc d) = ap (rounded (neg_ℤ (pos (a * b)))) (sym (add-one d))
ratio_by_sizes (pos a) (negsuc b) (pos d) = refl
ratio_by_sizes (pos a) (negsuc b) (negsuc d) =
    ap (λ x. rounded x (suc d)) (sym (neg_ℤ-neg_ℤ (pos (a * suc b)))) ∙ ap (rounded (neg_ℤ (neg_ℤ (pos (a * suc b))))) (sym (add-one d))
ratio_by_sizes (negsuc a) (pos b) (pos d) = refl
ratio_by_sizes (negsuc a) (pos b) (negsuc d) =
    ap (λ x. rounded x (suc d)) (sym (neg_ℤ-neg_ℤ (pos (suc a * b)))) ∙ ap (rounded (neg_ℤ (neg_ℤ (pos (suc a * b))))) (sym (add-one d))
ratio_by_sizes (negsuc a) (negsuc b) (pos d) = refl
ratio_by_sizes (negsuc a) (negsuc b) (negsuc d) = ap (rounded (neg_ℤ (pos (suc a * suc b)))) (sym (add-one d))

pub ratio_by_parts : (p q r : ℤ) (a b d whole rest : ℕ) (x : Bool) → a ≡ unsigned_abs p → b ≡ unsigned_abs q → d ≡ unsigned_abs r
    → whole ≡ a * b / d → rest ≡ a * b % d → x ≡ not (beq (not (beq (lt_z p (pos 0)) (lt_z q (pos 0)))) (lt_z r (pos 0)))
    → rounded (signed x (whole * d + rest)) d ≡ rounded_ratio (p *ℤ q) r
ratio_by_parts p q r a b d whole rest x e f g h i j =
    let product : whole * d + rest ≡ unsigned_abs p * unsigned_abs q =
    ap (λ n. n * d + rest) h ∙ ap (λ n. a * b / d * d + n) i ∙ div-add-mod' (a * b) d ∙ ap (λ n. n * b) e
    ∙ ap (λ n. unsigned_abs p * n) f in
    let sign : x ≡ is_below_zero p q r = j ∙ ap (λ y. not (beq (not (beq y (lt_z q (pos 0)))) (lt_z r (pos 0)))) (negative_is_below p)
    ∙ ap (λ y. not (beq (not (beq (is_negative p) y)) (lt_z r (pos 0)))) (negative_is_below q)
    ∙ ap (λ y. not (beq (not (beq (is_negative p) (is_negative q))) y)) (negative_is_below r) in
    ap (λ y. rounded (signed y (whole * d + rest)) d) sign ∙ ap (λ n. rounded (signed (is_below_zero p q r) n) d) product
    ∙ ap (rounded (signed (is_below_zero p q r) (unsigned_abs p * unsigned_abs q))) g ∙ ratio_by_sizes p q r

-- a ratio is at least as far from zero as the quotient of the sizes
pub ratio_out_of_reach : (p q r : ℤ) (a b d k : ℕ) → a ≡ unsigned_abs p → b ≡ unsigned_abs q → d ≡ unsigned_abs r → 0 < d
    → (a * b / d ≤ k → ⊥) → k < unsigned_abs (rounded_ratio (p *ℤ q) r)
ratio_out_of_reach p q r a b d k e f g h far =
    let size = size_of_rounded (is_below_zero p q r) (a * b / d) (a * b % d) d (mod_below (a * b) d h) in
    let same = ratio_by_sizes p q r in
    let product : a * b / d * d + a * b % d ≡ unsigned_abs p * unsigned_abs q =
    div-add-mod' (a * b) d ∙ ap (λ n. n * b) e ∙ ap (λ n. unsigned_abs p * n) f in
    let parts : rounded (signed (is_below_zero p q r) (a * b / d * d + a * b % d)) d ≡ rounded_ratio (p *ℤ q) r =
    ap (λ n. rounded (signed (is_below_zero p q r) n) d) product
    ∙ ap (rounded (signed (is_below_zero p q r) (unsigned_abs p * unsigned_abs q))) g ∙ same in
    omega (arith, size, ap unsigned_abs parts, far)

pub ruleset quotients = (quotient_by_parts, remainder_by_parts)
