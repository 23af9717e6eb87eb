-- The numbers that digits stand for.
use Rattle.std.proofs.Common.{◌≡◌, ◌≢◌, ℕ, zero, suc, ◌+◌, ◌-◌, ◌*◌, ◌^◌, ◌<◌, ◌≤◌, List, [], ◌∷◌, ◌++◌, length, drop, get_or, ltb, eqb}
use Rattle.std.proofs.Common.{◌==◌, mul-le-mul_left, ℤ, unsigned_abs, Bool, true, false, not, ◌&&◌, ⊎_elim, lt-ltb, le-ltb, le-leb, arith}
use Rattle.std.proofs.Common.{sym, refl, ap, ◌∙◌}
use Rattle.std.specs.List.{list_all}
use Rattle.std.specs.Char.{is_ascii_digit}
use Rattle.std.proofs.Math.Nat.{pow-suc, mul-le-mul_right}
use Rattle.std.proofs.lemmas.Bool.{eqb-true, ltb-true, ltb-false, leb-true, leb-false, cases_lt, lt-leb}
use Rattle.std.proofs.lemmas.Bool.Decides.{nat_tests, eqb_tells}
use Rattle.std.proofs.lemmas.Nat.{pow-add}
use Rattle.std.proofs.lemmas.List.{drop_more, length-append}
use Rattle.std.proofs.lemmas.List.Folds.{list_all-append}
use Rattle.fixed_num.proofs.RoundingLemmas.{rounded_up, rounded_down, rounded_away, rounded_toward, size_of_rounded, size_in_range}
use Rattle.fixed_num.specs.Number.{limit, IsNumber, signed, rounded}
use Rattle.fixed_num.specs.JsonNumber.{number_of, AreDigits}
use Rattle.fixed_num.specs.inner.Digits.{number_after, rounds_away, rounded_at}

pub ten_pos : (k : ℕ) → 0 < 10 ^ k
ten_pos zero = omega arith
ten_pos (suc k) = omega (arith, ten_pos k, pow-suc 10 k)

pub both_true : (a b : Bool) → (a && b) ≡ true → (a ≡ true) × (b ≡ true)
both_true true b e = (refl, e)
both_true false b e = cc

digit_bounds : (d : ℕ) → is_ascii_digit d ≡ true → (48 ≤ d) × (d ≤ 57)
digit_bounds d e = grind (arith, nat_tests)

pub first_digit : (d : ℕ) (ds : List ℕ) → AreDigits (d ∷ ds) → (48 ≤ d) × (d ≤ 57) × AreDigits ds
first_digit d ds a =
    let parts = both_true (is_ascii_digit d) (list_all is_ascii_digit ds) a in
    let bounds = digit_bounds d parts.0 in
    (bounds.0, bounds.1, parts.1)

-- ---- digits read one after another

number_after-cons : (n d : ℕ) (ds : List ℕ) → number_after n (d ∷ ds) ≡ number_after (n * 10 + (d - 48)) ds
number_after-cons n d ds = omega (arith, ap (λ x. n * x) (pow-suc 10 (length ds)))

pub number_after-ge : (n : ℕ) (ds : List ℕ) → n ≤ number_after n ds
number_after-ge n ds = omega (arith, mul-le-mul_left n (ten_pos (length ds)))

-- digits in two pieces
pub number_joined : (xs ys : List ℕ) → number_of (xs ++ ys) ≡ number_after (number_after 0 xs) ys
number_joined [] ys = omega arith
number_joined (x ∷ xs) ys =
    let power : 10 ^ length (xs ++ ys) ≡ 10 ^ length xs * 10 ^ length ys =
    ap (λ n. 10 ^ n) (length-append xs ys) ∙ pow-add 10 (length xs) (length ys) in
    omega (arith, number_joined xs ys, ap (λ n. (x - 48) * n) power)

pub digits_together : (xs ys : List ℕ) → AreDigits xs → AreDigits ys → AreDigits (xs ++ ys)
digits_together xs ys a b =
    list_all-append is_ascii_digit xs ys ∙ ap (λ t. t && list_all is_ascii_digit ys) a ∙ b

pub record DigitStep (xs : List ℕ) (i n m : ℕ) : Type 0 where
  pub digits : AreDigits (drop (i + 1) xs)
  pub same : number_after n (drop i xs) ≡ number_after (n * 10 + m) (drop (i + 1) xs)
  pub least : n * 10 + m ≤ number_after n (drop i xs)

pub DigitStep-at : (xs : List ℕ) (i n m : ℕ) → i < length xs → AreDigits (drop i xs) → m ≡ get_or xs i 0 - 48 → DigitStep xs i n m
DigitStep-at xs i n m l a e =
    let parts = drop_more xs i 0 l in
    let first = first_digit (get_or xs i 0) (drop (i + 1) xs) (rw parts at a) in
    let same = ap (number_after n) parts ∙ number_after-cons n (get_or xs i 0) (drop (i + 1) xs)
    ∙ ap (λ x. number_after (n * 10 + x) (drop (i + 1) xs)) (sym e) in
    record { digits = first.2; same = same; least = omega (arith, same, number_after-ge (n * 10 + m) (drop (i + 1) xs)) }

pub number_below : (ds : List ℕ) → AreDigits ds → number_of ds < 10 ^ length ds
number_below [] a = omega arith
number_below (d ∷ ds) a =
    let first = first_digit d ds a in
    let digit : d - 48 ≤ 9 = omega arith in
    omega (arith, number_below ds first.2, mul-le-mul_right (10 ^ length ds) digit, pow-suc 10 (length ds))

-- ---- digits that are cut off

pub zeros_are_nothing : (ds : List ℕ) → list_all (λ d. d == 48) ds ≡ true → number_of ds ≡ 0
zeros_are_nothing [] e = refl
zeros_are_nothing (d ∷ ds) e =
    let parts = both_true (d == 48) (list_all (λ d. d == 48) ds) e in
    omega (arith, zeros_are_nothing ds parts.1, ap (λ x. (x - 48) * 10 ^ length ds) (eqb-true d 48 parts.0))

pub others_are_something : (ds : List ℕ) → AreDigits ds → list_all (λ d. d == 48) ds ≡ false → 0 < number_of ds
others_are_something [] a e = cc
others_are_something (d ∷ ds) a e =
    let first = first_digit d ds a in
    ⊎_elim (λ (t : (eqb d 48 ≡ true) × (d ≡ 48)). omega (arith, others_are_something ds first.2 (rw t.0 at e)))
    (λ (f : (eqb d 48 ≡ false) × (d ≢ 48)). let above : 1 ≤ d - 48 = omega (arith, f.1) in
    omega (arith, mul-le-mul_right (10 ^ length ds) above, ten_pos (length ds))) (eqb_tells d 48)

rounds_above : (minus : Bool) (ds : List ℕ) → 10 ^ length ds < 2 * number_of ds → rounds_away minus ds ≡ true
unfolding rounds_away
rounds_above true ds h = lt-ltb _ _ h
rounds_above false ds h = le-leb _ _ (omega arith)

rounds_below : (minus : Bool) (ds : List ℕ) → 2 * number_of ds < 10 ^ length ds → rounds_away minus ds ≡ false
unfolding rounds_away
rounds_below true ds h = le-ltb _ _ (omega arith)
rounds_below false ds h = lt-leb _ _ h

rounds_at_middle : (minus : Bool) (ds : List ℕ) → 2 * number_of ds ≡ 10 ^ length ds → rounds_away minus ds ≡ not minus
unfolding rounds_away
rounds_at_middle true ds h = le-ltb _ _ (omega arith)
rounds_at_middle false ds h = le-leb _ _ (omega arith)

pub rounds_by_other : (minus : Bool) (first : ℕ) (ds : List ℕ) → AreDigits (first ∷ ds) → first ≢ 53
    → ltb 53 first ≡ rounds_away minus (first ∷ ds)
rounds_by_other minus f ds a n =
    let first = first_digit f ds a in
    ⊎_elim (λ (h : 53 < f). let more : 6 ≤ f - 48 = omega arith in
    lt-ltb 53 f h ∙ sym (rounds_above minus (f ∷ ds)
    (omega (arith, mul-le-mul_right (10 ^ length ds) more, ten_pos (length ds), pow-suc 10 (length ds)))))
    (λ (h : f ≤ 53). let less : f - 48 ≤ 4 = omega (arith, n) in
    le-ltb 53 f h ∙ sym (rounds_below minus (f ∷ ds)
    (omega (arith, mul-le-mul_right (10 ^ length ds) less, number_below ds first.2, pow-suc 10 (length ds)))))
    (cases_lt 53 f)

pub rounds_by_zeros : (minus : Bool) (ds : List ℕ) → list_all (λ d. d == 48) ds ≡ true → not minus ≡ rounds_away minus (53 ∷ ds)
rounds_by_zeros minus ds z =
    sym (rounds_at_middle minus (53 ∷ ds) (omega (arith, zeros_are_nothing ds z, pow-suc 10 (length ds))))

pub rounds_by_others : (minus : Bool) (ds : List ℕ) → AreDigits ds → list_all (λ d. d == 48) ds ≡ false → true ≡ rounds_away minus (53 ∷ ds)
rounds_by_others minus ds a z =
    sym (rounds_above minus (53 ∷ ds) (omega (arith, others_are_something ds a z, pow-suc 10 (length ds))))

pub rounds_nothing : (minus : Bool) (xs ys : List ℕ) → length xs < 1 → length ys < 1 → false ≡ rounds_away minus (xs ++ ys)
rounds_nothing minus [] [] h i = sym (rounds_below minus [] (omega arith))
rounds_nothing minus [] (y ∷ ys) h i = absurd (omega arith)
rounds_nothing minus (x ∷ xs) ys h i = absurd (omega arith)

pub ruleset rounding_by_first = (rounds_by_other, rounds_by_zeros, rounds_by_others)

pub zeros_joined : (xs ys : List ℕ) → list_all (λ d. d == 48) (xs ++ ys) ≡ (list_all (λ d. d == 48) xs && list_all (λ d. d == 48) ys)
zeros_joined xs ys = list_all-append (λ d. d == 48) xs ys

-- ---- numbers that are rounded where their digits are cut

pub number_append : (xs ys : List ℕ) → number_of (xs ++ ys) ≡ number_of xs * 10 ^ length ys + number_of ys
number_append xs ys =
    number_joined xs ys ∙ ap (λ n. number_after n ys) (omega arith)

at_parts : (minus : Bool) (kept cut : List ℕ) (z : ℤ)
    → rounded (signed minus (number_of kept * 10 ^ length cut + number_of cut)) (10 ^ length cut) ≡ z → rounded_at minus kept cut ≡ z
unfolding rounded_at
at_parts minus kept cut z e =
    ap (λ n. rounded (signed minus n) (10 ^ length cut)) (number_append kept cut) ∙ e

pub rounded_at_up : (minus : Bool) (kept cut : List ℕ) → AreDigits cut → rounds_away minus cut ≡ true
    → signed minus (number_of kept + 1) ≡ rounded_at minus kept cut
unfolding rounds_away
rounded_at_up true kept cut a h =
    sym (at_parts true kept cut _ (rounded_away (number_of kept) (number_of cut) (10 ^ length cut) (number_below cut a) (ltb-true _ _ h)))
rounded_at_up false kept cut a h =
    sym (at_parts false kept cut _ (rounded_up (number_of kept) (number_of cut) (10 ^ length cut) (number_below cut a) (leb-true _ _ h)))

pub rounded_at_same : (minus : Bool) (kept cut : List ℕ) → AreDigits cut → rounds_away minus cut ≡ false
    → signed minus (number_of kept) ≡ rounded_at minus kept cut
unfolding rounds_away
rounded_at_same true kept cut a h =
    sym (at_parts true kept cut _ (rounded_toward (number_of kept) (number_of cut) (10 ^ length cut) (number_below cut a)
    (ltb-false _ _ h)))
rounded_at_same false kept cut a h =
    sym (at_parts false kept cut _ (rounded_down (number_of kept) (number_of cut) (10 ^ length cut) (number_below cut a) (leb-false _ _ h)))

pub rounded_at_far : (minus : Bool) (kept cut : List ℕ) → AreDigits cut → (number_of kept ≤ limit → ⊥)
    → IsNumber (rounded_at minus kept cut) → ⊥
unfolding rounded_at
rounded_at_far minus kept cut a far h =
    let size = size_of_rounded minus (number_of kept) (number_of cut) (10 ^ length cut) (number_below cut a) in
    far (omega (
      arith,
      size,
      size_in_range _ h,
      ap (λ n. unsigned_abs (rounded (signed minus n) (10 ^ length cut)))
          (number_append kept cut),
    ))

pub ruleset rounding_off = (rounded_at_up, rounded_at_same, rounded_at_far)
