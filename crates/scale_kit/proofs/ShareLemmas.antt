-- Why a share of a size, taken in two parts, is the rounded quotient, and lies between nothing and the size.
use Rattle.std.proofs.Common.{◌≡◌, ℕ, ◌+◌, ◌*◌, ◌/◌, ◌%◌, ◌<◌, ◌≤◌, suc, ℤ, pos, negsuc, neg_ℤ, ◌*ℤ◌, ◌≤ℤ◌, Bool, false}
use Rattle.std.proofs.Common.{unsigned_abs, le-ltb, arith, sym, ap, ◌∙◌, subst}
use Rattle.std.specs.Prelude.{int_lt}
use Rattle.std.proofs.lemmas.Int.{ints}
use Rattle.std.proofs.Math.Nat.{mul-le-mul_left, div-add-mod', div-lt_iff_lt-mul}
use Rattle.fixed_num.specs.Number.{rounded, signed}
use Rattle.fixed_num.proofs.LawLemmas.{rounded_keeps_order, rounded_is_exact}
use Rattle.scale_kit.specs.inner.Between.{IsBetween}

-- a part of a number is no more than it
pub quotient_within : (p k q : ℕ) → 0 < q → p ≤ q → p * k / q ≤ k
quotient_within p k q some part =
    let within : p * k ≤ q * k = grind arith in
    let below : p * k < (k + 1) * q = omega (arith, within) in
    let less : p * k / q < k + 1 = (div-lt_iff_lt-mul {k = q} some).1 below in
    omega (arith, less)

-- a share from its quotient and its remainder
share_by_sizes : (size : ℤ) (p d : ℕ) → 0 < d
    → rounded (signed (int_lt size (pos 0)) (p * unsigned_abs size / d * d + p * unsigned_abs size % d)) d ≡ rounded (size *ℤ pos p) d
share_by_sizes (pos n) p d some =
    let whole : p * n / d * d + p * n % d ≡ n * p = omega (arith, div-add-mod' (p * n) d) in
    let up : int_lt (pos n) (pos 0) ≡ false = le-ltb n 0 (omega arith) in
    ap (λ b. rounded (signed b (p * n / d * d + p * n % d)) d) up ∙ ap (λ x. rounded (pos x) d) whole
share_by_sizes (negsuc n) p d some =
    let whole : p * suc n / d * d + p * suc n % d ≡ suc n * p = omega (arith, div-add-mod' (p * suc n) d) in
    ap (λ x. rounded (neg_ℤ (pos x)) d) whole

pub share_is : (size part : ℤ) (p s d w r : ℕ) (x : Bool) → part ≡ pos p → s ≡ unsigned_abs size → 0 < d → w ≡ p * s / d → r ≡ p * s % d
    → x ≡ int_lt size (pos 0) → rounded (signed x (w * d + r)) d ≡ rounded (size *ℤ part) d
share_is size part p s d w r x e f some g h i =
    let here : rounded (signed x (w * d + r)) d
    ≡ rounded (signed (int_lt size (pos 0)) (p * unsigned_abs size / d * d + p * unsigned_abs size % d)) d =
    ap (λ y. rounded (signed y (w * d + r)) d) i
    ∙ ap (λ n. rounded (signed (int_lt size (pos 0)) (n * d + r)) d) (g ∙ ap (λ n. p * n / d) f)
    ∙ ap (λ n. rounded (signed (int_lt size (pos 0)) (p * unsigned_abs size / d * d + n)) d) (h ∙ ap (λ n. p * n % d) f) in
    here ∙ share_by_sizes size p d some ∙ ap (λ z. rounded (size *ℤ z) d) (sym e)

-- a whole size is itself, and nothing of it nothing
whole_share : (size : ℤ) (d : ℕ) → 0 < d → rounded (size *ℤ pos d) d ≡ size
whole_share size d some = rounded_is_exact size d some

no_share : (d : ℕ) → 0 < d → rounded (pos 0 *ℤ pos d) d ≡ pos 0
no_share d some = rounded_is_exact (pos 0) d some

-- a part of a size lies between nothing and the size
part_above : (size : ℤ) (p d : ℕ) → pos 0 ≤ℤ size → p ≤ d → ((pos 0 *ℤ pos d) ≤ℤ (size *ℤ pos p)) × ((size *ℤ pos p) ≤ℤ (size *ℤ pos d))
part_above (pos n) p d up part = let less : n * p ≤ n * d = mul-le-mul_left n part in (omega (arith, ints, less), omega (arith, ints, less))
part_above (negsuc n) p d up part = absurd (omega (arith, ints))

part_below : (size : ℤ) (p d : ℕ) → size ≤ℤ pos 0 → p ≤ d → ((size *ℤ pos d) ≤ℤ (size *ℤ pos p)) × ((size *ℤ pos p) ≤ℤ (pos 0 *ℤ pos d))
part_below (pos n) p d down part =
    let none : n ≡ 0 = omega (arith, ints) in
    subst (λ m. ((pos m *ℤ pos d) ≤ℤ (pos m *ℤ pos p)) × ((pos m *ℤ pos p) ≤ℤ (pos 0 *ℤ pos d))) (sym none)
    (omega (arith, ints), omega (arith, ints))
part_below (negsuc n) p d down part =
    let less : suc n * p ≤ suc n * d = mul-le-mul_left (suc n) part in (omega (arith, ints, less), omega (arith, ints, less))

pub share_within : (size part : ℤ) (p d : ℕ) → part ≡ pos p → 0 < d → p ≤ d → IsBetween (pos 0) size (rounded (size *ℤ part) d)
share_within size part p d e some within =
    let least = no_share d some in
    let most = whole_share size d some in
    subst (λ z. IsBetween (pos 0) size (rounded (size *ℤ z) d)) (sym e)
    (record {
      up = λ up. let bounds = part_above size p d up within in
          (rw least at (rounded_keeps_order _ _ d bounds.0), rw most at (rounded_keeps_order _ _ d bounds.1));
      down = λ down. let bounds = part_below size p d down within in
          (rw most at (rounded_keeps_order _ _ d bounds.0), rw least at (rounded_keeps_order _ _ d bounds.1));
    })
