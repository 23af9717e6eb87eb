-- Why the nice domain from 0 to at most a thousand million stays in range.
use Rattle.std.proofs.Common.{◌≡◌, ℕ, zero, suc, ◌+◌, ◌*◌, ◌^◌, ◌<◌, ◌≤◌, ℤ, pos, Bool, true, false, ◌&&◌, nat_le, nat_lt, if◌then◌else◌}
use Rattle.std.proofs.Common.{List, [], ◌∷◌, ◌++◌, Option, Some, None, unsigned_abs, int_lt, arith, refl, sym, ap, ◌∙◌}
use Rattle.std.specs.Option.{option_map, option_or}
use Rattle.std.specs.List.{find, list_all}
use Rattle.std.proofs.lemmas.Int.{ints}
use Rattle.std.proofs.lemmas.Bool.{false≢true}
use Rattle.std.proofs.lemmas.Bool.Decides.{nat_tests}
use Rattle.std.proofs.lemmas.Option.{same_Some}
use Rattle.std.proofs.lemmas.List.Folds.{find-append}
use Rattle.fixed_num.specs.Number.{limit, million, IsNumber, floored, ceiled}
use Rattle.fixed_num.specs.Ranges.{◌>>=◌, in_range}
use Rattle.tick_kit.specs.Steps.{steps_at, steps_below, step_of, spaced, span_of, widened, widened_times, nice_of}
use Rattle.first_form.proofs.RangeLemmas.{in_range_at_number, size_of_above, ceiled_near, floored_zero}

-- what is found passes what all pass
find_within : {X : Type 0} (p q : X → Bool) (xs : List X) (x : X) → list_all q xs ≡ true → find p xs ≡ Some x → q x ≡ true
find_within p q [] x all found = cc
find_within p q (y ∷ ys) x all found = pick (p y) (q y) (list_all q ys) refl all found (λ others. find_within p q ys x others)
  where
    pick : (b c d : Bool) → c ≡ q y → (c && d) ≡ true → (if b then Some y else find p ys) ≡ Some x
        → (d ≡ true → find p ys ≡ Some x → q x ≡ true) → q x ≡ true
    pick true true d e both is later = ap q (sym (same_Some y x is)) ∙ sym e
    pick true false d e both is later = absurd (false≢true both)
    pick false true d e both is later = later both is
    pick false false d e both is later = absurd (false≢true both)

-- the test of a step for ten ticks over a span
abbrev is_taken : ℕ → ℕ × ℕ → Bool
is_taken span step = nat_lt (span * million) (step.1 * 10)

-- a step from 1 to 10^19 millionths
abbrev is_small : ℕ × ℕ → Bool
is_small s = nat_le 1 s.0 && nat_le s.0 (10 ^ 19)

-- the steps up to 10^19 millionths, and those above
abbrev last : ℕ × ℕ
last = (10 ^ 19, 1414214 * 10 ^ 19)

abbrev small_steps : List (ℕ × ℕ)
small_steps = steps_below 19 ++ last ∷ []

abbrev other_steps : List (ℕ × ℕ)
other_steps =
    (2 * 10 ^ 19, 3162278 * 10 ^ 19) ∷ (5 * 10 ^ 19, 7071068 * 10 ^ 19) ∷ steps_at (10 ^ 20) ++ steps_at (10 ^ 21) ++ steps_at (10 ^ 22)

all_steps : steps_below 23 ≡ small_steps ++ other_steps
all_steps = refl

all_small : list_all is_small small_steps ≡ true
all_small = refl

step_found : (span : ℕ) (s : ℕ × ℕ) → find (is_taken span) (steps_below 23) ≡ Some s → s.0 ≤ 10 ^ 19 → step_of span 10 ≡ Some s.0
unfolding step_of spaced
step_found span s found small =
    let yes : nat_le s.0 limit ≡ true = grind (arith, nat_tests) in
    ap (λ o. option_map (λ (step : ℕ × ℕ). step.0) o >>= (λ step. if nat_le step limit then Some step else None)) found
    ∙ ap (λ b. if b then Some s.0 else None) yes

-- the step of ten ticks over at most 10^20 millionths: the last small one is taken, where none before it is
small_step : (span : ℕ) → span ≤ 10 ^ 20 → (s : ℕ) × (step_of span 10 ≡ Some s) × (0 < s) × (s ≤ 10 ^ 19)
small_step span h =
    let yes : nat_lt (span * million) (1414214 * 10 ^ 19 * 10) ≡ true = grind (arith, nat_tests) in
    let before = find (is_taken span) (steps_below 19) in
    by_found before
    (find-append (is_taken span) (steps_below 19) (last ∷ []) ∙ ap (λ b. option_or before (if b then Some last else None)) yes)
  where
    known : (s : ℕ × ℕ) → find (is_taken span) small_steps ≡ Some s → (s : ℕ) × (step_of span 10 ≡ Some s) × (0 < s) × (s ≤ 10 ^ 19)
    known s e =
        let small : is_small s ≡ true = find_within (is_taken span) is_small small_steps s all_small e in
        let low : 1 ≤ s.0 = grind (arith, nat_tests) in
        let high : s.0 ≤ 10 ^ 19 = grind (arith, nat_tests) in
        let found =
        ap (find (is_taken span)) all_steps ∙ find-append (is_taken span) small_steps other_steps
        ∙ ap (λ o. option_or o (find (is_taken span) other_steps)) e in
        (s.0, step_found span s found high, low, high)

    by_found : (o : Option (ℕ × ℕ)) → find (is_taken span) small_steps ≡ option_or o (Some last)
        → (s : ℕ) × (step_of span 10 ≡ Some s) × (0 < s) × (s ≤ 10 ^ 19)
    by_found None e = known last e
    by_found (Some s) e = known s e

-- one turn, from the step and the two ends
widened_by : (a b : ℤ) (s : ℕ) (x y : ℤ) → step_of (span_of (a, b)) 10 ≡ Some s → in_range (floored a (pos s)) ≡ Some x
    → in_range (ceiled b (pos s)) ≡ Some y → widened 10 (a, b) ≡ Some (x, y)
widened_by a b s x y step low high =
    ap (λ o. o >>= (λ t. in_range (floored a (pos t)) >>= (λ u. in_range (ceiled b (pos t)) >>= (λ v. Some (u, v))))) step
    ∙ (λ i. low i >>= (λ u. high i >>= (λ v. Some (u, v))))

-- one turn on a domain from 0
widened_from_zero : (m : ℕ) → m ≤ 10 ^ 20 → (n : ℕ) × (widened 10 (pos 0, pos m) ≡ Some (pos 0, pos n)) × (m ≤ n) × (n ≤ m + 10 ^ 19)
widened_from_zero m h =
    let step = small_step m h in
    let s = step.0 in
    let z = ceiled (pos m) (pos s) in
    let near = ceiled_near (pos m) (pos s) (omega (arith, ints, step.2)) in
    let whole : z ≡ pos (unsigned_abs z) = size_of_above z (omega (arith, ints)) in
    let within : IsNumber z = (omega (arith, ints, step.3), omega (arith, ints, step.3)) in
    let known : step_of (span_of (pos 0, pos m)) 10 ≡ Some s = ap (λ n. step_of n 10) (omega arith) ∙ step.1 in (
      unsigned_abs z,
      widened_by (pos 0) (pos m) s (pos 0) (pos (unsigned_abs z)) known (ap in_range (floored_zero s))
          (in_range_at_number z within ∙ ap Some whole),
      omega (arith, ints),
      omega (arith, ints, step.3),
    )

widened_times_from_zero : (k m : ℕ) → m + k * 10 ^ 19 ≤ 11 * 10 ^ 19
    → (n : ℕ) × (widened_times k 10 (pos 0, pos m) ≡ Some (pos 0, pos n)) × (m ≤ n) × (n ≤ m + k * 10 ^ 19)
widened_times_from_zero zero m h = (m, refl, omega arith, omega arith)
widened_times_from_zero (suc k) m h =
    let first = widened_from_zero m (omega arith) in
    let others = widened_times_from_zero k first.0 (omega arith) in
    (others.0, ap (λ o. o >>= widened_times k 10) first.1 ∙ others.1, omega arith, omega arith)

-- the nice domain from 0 to at most 10^15 millionths begins at 0
pub nice_from_zero : (m : ℕ) → m ≤ 10 ^ 15 → (n : ℕ) × (nice_of 10 (pos 0, pos m) ≡ Some (pos 0, pos n)) × (m ≤ n)
nice_from_zero zero h = (0, refl, omega arith)
nice_from_zero (suc m) h =
    let turns = widened_times_from_zero 10 (suc m) (omega arith) in
    let yes : int_lt (pos 0) (pos (suc m)) ≡ true = grind (arith, ints) in
    (turns.0, ap (λ b. if b then widened_times 10 10 (pos 0, pos (suc m)) else Some (pos 0, pos (suc m))) yes ∙ turns.1, turns.2)
