-- Boundaries of milliseconds.
use Rattle.std.proofs.Common.{◌≡◌, ℕ, zero, suc, ◌+◌, ◌-◌, ◌%◌, ◌<◌, ◌==◌, Bool, true, false, refl, sym, ap, ◌∙◌, subst, arith, ℤ, pos}
use Rattle.std.proofs.Common.{negsuc, neg_ℤ, ◌≤ℤ◌, ◌<ℤ◌, unsigned_abs}
use Rattle.std.proofs.lemmas.Bool.Decides.{nat_tests}
use Rattle.std.proofs.lemmas.Int.{ints}
use Rattle.case_table.specs.declared.unit.Unit.TheVariants.{Millisecond}
use Rattle.time_calc.specs.declared.boundaries.Side.TheVariants.{Before, After}
use Rattle.time_calc.specs.Boundaries.{is_boundary}
use Rattle.time_calc.specs.NextBoundary.{boundary_at}
use Rattle.time_calc.proofs.BoundaryFrame.{IsLastOf, IsFirstOf, none_up_to, none_after, floor_multiple, next_multiple}

multiple_of : ℕ → ℤ → Bool
multiple_of n i = unsigned_abs i % n == 0

is_multiple : (n : ℕ) (i : ℤ) → multiple_of n i ≡ is_boundary Millisecond n i
unfolding is_boundary multiple_of
is_multiple n i = refl

positive : (a : ℕ) → 0 < a → (a == 0) ≡ false
positive a h = grind (arith, nat_tests)

size_of_neg : (x : ℕ) → unsigned_abs (neg_ℤ (pos x)) ≡ x
size_of_neg zero = refl
size_of_neg (suc x) = refl

at_multiple : (n x : ℕ) → x % n ≡ 0 → (is_boundary Millisecond n (pos x) ≡ true) × (is_boundary Millisecond n (neg_ℤ (pos x)) ≡ true)
unfolding multiple_of
at_multiple n x e = (
  sym (is_multiple n (pos x)) ∙ ap (λ k. k == 0) e,
  sym (is_multiple n (neg_ℤ (pos x))) ∙ ap (λ k. k % n == 0) (size_of_neg x) ∙ ap (λ k. k == 0) e,
)

off_multiple : (n : ℕ) (i : ℤ) → 0 < unsigned_abs i % n → is_boundary Millisecond n i ≡ false
unfolding multiple_of
off_multiple n i h = sym (is_multiple n i) ∙ positive (unsigned_abs i % n) h

none_before_pos : (n a : ℕ) → 0 < n → (j : ℤ) → pos (a - a % n) <ℤ j → j ≤ℤ pos a → is_boundary Millisecond n j ≡ false
none_before_pos n a some (pos k) low high = off_multiple n (pos k) (none_up_to n a k some (omega (arith, ints, low)) (omega (arith, ints, high)))
none_before_pos n a some (negsuc k) low high = absurd (omega (arith, ints, low))

none_after_pos : (n a : ℕ) → 0 < n → (j : ℤ) → pos a <ℤ j → j <ℤ pos (a - a % n + n) → is_boundary Millisecond n j ≡ false
none_after_pos n a some (pos k) low high = off_multiple n (pos k) (none_after n a k some (omega (arith, ints, low)) (omega (arith, ints, high)))
none_after_pos n a some (negsuc k) low high = absurd (omega (arith, ints, low))

none_before_neg : (n a : ℕ) → 0 < n → (j : ℤ) → neg_ℤ (pos (a - a % n + n)) <ℤ j → j ≤ℤ negsuc a → is_boundary Millisecond n j ≡ false
none_before_neg n a some (pos k) low high = absurd (omega (arith, ints, high))
none_before_neg n a some (negsuc k) low high = off_multiple n (negsuc k) (none_after n a (suc k) some (omega (arith, ints, high)) (omega (arith, ints, low)))

none_after_neg : (n a : ℕ) → 0 < n → (j : ℤ) → negsuc a <ℤ j → j <ℤ neg_ℤ (pos (a - a % n)) → is_boundary Millisecond n j ≡ false
none_after_neg n a some (pos k) low high = absurd (omega (arith, ints, high))
none_after_neg n a some (negsuc k) low high = off_multiple n (negsuc k) (none_up_to n a (suc k) some (omega (arith, ints, high)) (omega (arith, ints, low)))

pub last_millisecond : (n : ℕ) (i : ℤ) → 0 < n → IsLastOf (is_boundary Millisecond n) i (boundary_at Before Millisecond n i)
last_millisecond n (pos a) some =
    let place : pos (a - a % n) ≡ boundary_at Before Millisecond n (pos a) = omega (arith, ints, some) in
    subst (IsLastOf (is_boundary Millisecond n) (pos a)) place (record {
      not_after = omega (arith, ints);
      hit = (at_multiple n (a - a % n) (floor_multiple n a some)).0;
      none = none_before_pos n a some;
    })
last_millisecond n (negsuc a) some =
    let place : neg_ℤ (pos (a - a % n + n)) ≡ boundary_at Before Millisecond n (negsuc a) = omega (arith, ints, some) in
    subst (IsLastOf (is_boundary Millisecond n) (negsuc a)) place (record {
      not_after = omega (arith, ints, some);
      hit = (at_multiple n (a - a % n + n) (next_multiple n a some)).1;
      none = none_before_neg n a some;
    })

pub first_millisecond : (n : ℕ) (i limit : ℤ) → 0 < n → IsFirstOf (is_boundary Millisecond n) limit i (boundary_at After Millisecond n i)
first_millisecond n (pos a) limit some =
    let place : pos (a - a % n + n) ≡ boundary_at After Millisecond n (pos a) = omega (arith, ints, some) in
    subst (IsFirstOf (is_boundary Millisecond n) limit (pos a)) place (record {
      after = omega (arith, ints, some);
      hit = λ within. (at_multiple n (a - a % n + n) (next_multiple n a some)).0;
      none = none_after_pos n a some;
    })
first_millisecond n (negsuc a) limit some =
    let place : neg_ℤ (pos (a - a % n)) ≡ boundary_at After Millisecond n (negsuc a) = omega (arith, ints, some) in
    subst (IsFirstOf (is_boundary Millisecond n) limit (negsuc a)) place (record {
      after = omega (arith, ints);
      hit = λ within. (at_multiple n (a - a % n) (floor_multiple n a some)).1;
      none = none_after_neg n a some;
    })
