-- The laws of rounding, of multiples and of roots.
use Rattle.std.proofs.Common.{◌≡◌, ℕ, zero, suc, ◌+◌, ◌*◌, ◌/◌, ◌^◌, ◌<◌, ◌≤◌, ⊎_elim, le-leb, ℤ, pos, negsuc, neg_ℤ, ◌+ℤ◌, ◌*ℤ◌, ◌≤ℤ◌}
use Rattle.std.proofs.Common.{arith, sym, refl, ap, ◌∙◌}
use Rattle.std.proofs.lemmas.Int.{ints}
use Rattle.std.proofs.lemmas.Nat.{div-add-mod', mod_below, le-div, div_below}
use Rattle.std.proofs.lemmas.Bool.{cases_lt, lt-leb}
use Rattle.std.proofs.Math.Nat.{pow-suc, suc-mul, zero-mul, div-zero, div-mul-le_self}
use lib.IntN.{neg_ℤ-neg_ℤ}
use Rattle.fixed_num.proofs.RoundingLemmas.{rounded_up, rounded_down, rounded_toward, root_from_squares}
use Rattle.fixed_num.specs.Number.{root_of, square_root, larger_root, floor_quotient, rounded, rounded_ratio, floored, ceiled}
use Rattle.fixed_num.specs.Laws.{RoundedKeepsOrder, RoundedIsExact, MiddleGoesUp, FlooredIsMultiple, CeiledIsMultiple, OneRoot}
use Rattle.fixed_num.specs.Laws.{RatioIsFraction, RootOfIsRoot}

div_order : (a b q : ℕ) → a ≤ b → a / q ≤ b / q
div_order a b zero h = omega (arith, div-zero a, div-zero b)
div_order a b (suc q) h = le-div (a / suc q) b (suc q) (omega arith) (omega (arith, div-mul-le_self a (suc q), h))

floor_quotient_order : (p r : ℤ) (q : ℕ) → p ≤ℤ r → floor_quotient p q ≤ℤ floor_quotient r q
unfolding floor_quotient
floor_quotient_order (pos a) (pos b) q h = omega (arith, ints, div_order a b q (omega (arith, ints, h)))
floor_quotient_order (pos a) (negsuc b) q h = absurd (omega (arith, ints, h))
floor_quotient_order (negsuc a) (pos b) q h = omega (arith, ints)
floor_quotient_order (negsuc a) (negsuc b) q h = omega (arith, ints, div_order b a q (omega (arith, ints, h)))

pub rounded_keeps_order : RoundedKeepsOrder
unfolding rounded
rounded_keeps_order p r q h =
    floor_quotient_order (pos 2 *ℤ p +ℤ pos q) (pos 2 *ℤ r +ℤ pos q) (2 * q) (omega (arith, ints, h))

pub rounded_is_exact : RoundedIsExact
rounded_is_exact (pos n) q h =
    ap (λ x. rounded (pos x) q) (omega arith) ∙ rounded_down n 0 q h (omega arith)
rounded_is_exact (negsuc n) q h =
    ap (λ x. rounded (neg_ℤ (pos x)) q) (omega arith) ∙ rounded_toward (suc n) 0 q h (omega arith)

pub middle_goes_up : MiddleGoesUp
middle_goes_up (pos n) q h = rounded_up n q (2 * q) (omega arith) (omega arith) ∙ omega (arith, ints)
middle_goes_up (negsuc n) q h =
    let below : negsuc n *ℤ pos (2 * q) +ℤ pos q ≡ neg_ℤ (pos (n * (2 * q) + q)) = omega (arith, ints, suc-mul n (2 * q)) in
    ap (λ z. rounded z (2 * q)) below ∙ rounded_toward n q (2 * q) (omega arith) (omega arith) ∙ omega (arith, ints)

pub floored_is_multiple : FlooredIsMultiple
unfolding floored floor_quotient
floored_is_multiple (pos n) (pos d) h =
    record {
      times = pos (n / d);
      multiple = refl;
      not_above = omega (arith, ints, div-add-mod' n d);
      nearest = omega (arith, ints, div-add-mod' n d, mod_below n d (omega (arith, ints, h)));
    }
floored_is_multiple (negsuc n) (pos d) h =
    record {
      times = negsuc (n / d);
      multiple = refl;
      not_above = omega (arith, ints, div-add-mod' n d, suc-mul (n / d) d, mod_below n d (omega (arith, ints, h)));
      nearest =
          omega (arith, ints, div-add-mod' n d, suc-mul (n / d) d);
    }
floored_is_multiple m (negsuc d) h = absurd (omega (arith, ints, h))

neg_times : (k s : ℤ) → neg_ℤ (k *ℤ s) ≡ neg_ℤ k *ℤ s
neg_times (pos zero) (pos b) = ap (λ x. neg_ℤ (pos x)) (zero-mul b) ∙ sym (ap pos (zero-mul b))
neg_times (pos zero) (negsuc b) =
    ap (λ x. neg_ℤ (neg_ℤ (pos x))) (zero-mul (suc b)) ∙ sym (ap (λ x. neg_ℤ (pos x)) (zero-mul (suc b)))
neg_times (pos (suc a)) (pos b) = refl
neg_times (pos (suc a)) (negsuc b) = neg_ℤ-neg_ℤ (pos (suc a * suc b))
neg_times (negsuc a) (pos b) = neg_ℤ-neg_ℤ (pos (suc a * b))
neg_times (negsuc a) (negsuc b) = refl

pub ceiled_is_multiple : CeiledIsMultiple
unfolding ceiled
ceiled_is_multiple m s h =
    let below = floored_is_multiple (neg_ℤ m) s h in
    record {
      times = neg_ℤ below.times;
      multiple = ap neg_ℤ below.multiple ∙ neg_times below.times s;
      not_below = omega (arith, ints, below.not_above);
      nearest = omega (arith, ints, below.nearest);
    }

pub one_root : OneRoot
one_root m t u x y =
    omega (arith, ints, x.greatest u y.within, y.greatest t x.within)

pub ratio_is_fraction : RatioIsFraction
unfolding rounded_ratio
ratio_is_fraction p (pos q) h = refl
ratio_is_fraction p (negsuc q) h = absurd (omega (arith, ints, h))

record IsSquareRoot (n r : ℕ) : Type 0 where
  within : r * r ≤ n
  above : n < (r + 1) * (r + 1)

larger : (n r : ℕ) → r * r ≤ n → n < (r + 2) * (r + 2) → IsSquareRoot n (larger_root n r)
larger n r h g =
    ⊎_elim (λ (p : n < (r + 1) * (r + 1)). rw (lt-leb ((r + 1) * (r + 1)) n p) (record { within = h; above = p }))
    (λ (p : (r + 1) * (r + 1) ≤ n). rw (le-leb ((r + 1) * (r + 1)) n p) (record { within = p; above = omega (arith, g) }))
    (cases_lt n ((r + 1) * (r + 1)))

square_root_is : (k n : ℕ) → n < 4 ^ k → IsSquareRoot n (square_root k n)
square_root_is zero n h = record { within = omega arith; above = omega arith }
square_root_is (suc k) n h =
    let half = square_root_is k (n / 4) (div_below n 4 (4 ^ k) (omega arith) (omega (arith, pow-suc 4 k))) in
    larger n (2 * square_root k (n / 4)) (omega (arith, half.within, div-add-mod' n 4))
    (omega (arith, half.above, div-add-mod' n 4, mod_below n 4 (omega arith)))

pub root_of_is_root : RootOfIsRoot
unfolding root_of
root_of_is_root (pos n) h p =
    let size : n * 1000000 < 4 ^ 64 = omega (arith, ints, h) in
    let root = square_root_is 64 (n * 1000000) size in
    root_from_squares (pos n) (n * 1000000) (square_root 64 (n * 1000000)) refl root.within root.above
root_of_is_root (negsuc n) h p = absurd (omega (arith, ints, p))
