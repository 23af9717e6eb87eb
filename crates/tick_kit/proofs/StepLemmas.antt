-- Why the powers of ten in turn give the step, and why a domain that stays may be left.
use Rattle.std.proofs.Common.{◌≡◌, ℕ, ◌+◌, ◌*◌, ◌^◌, ◌<◌, ◌≤◌, ℤ, Bool, Option, Some, None, zero, suc, nat_lt}
use Rattle.std.proofs.Common.{⊎_elim, arith, refl, sym, ap, ◌∙◌, add-one}
use Rattle.std.specs.List.{find}
use Rattle.std.specs.Option.{option_map, option_or}
use Rattle.std.proofs.lemmas.List.Folds.{find-append}
use Rattle.std.proofs.lemmas.Bool.{cases_lt}
use Rattle.std.proofs.Math.Nat.{pow-le-pow_right}
use Rattle.fixed_num.specs.Number.{limit, million}
use Rattle.fixed_num.specs.Ranges.{◌>>=◌}
use Rattle.tick_kit.specs.Steps.{steps_at, steps_below, spaced, widened, widened_times}

-- the step that is taken below the n-th power of ten is the same below a later one
pub found_later : (p : ℕ × ℕ → Bool) (n m : ℕ) (s : ℕ × ℕ) → find p (steps_below n) ≡ Some s → n ≤ m → find p (steps_below m) ≡ Some s
found_later p n zero s found h = let e : n ≡ 0 = omega arith in ap (λ k. find p (steps_below k)) (sym e) ∙ found
found_later p n (suc m) s found h =
    ⊎_elim
    (λ (l : n < suc m). let below : n ≤ m = omega arith in find-append p (steps_below m) (steps_at (10 ^ m))
    ∙ ap (λ o. option_or o (find p (steps_at (10 ^ m)))) (found_later p n m s found below))
    (λ (l : suc m ≤ n). let e : suc m ≡ n = omega arith in ap (λ k. find p (steps_below k)) e ∙ found)
    (cases_lt n (suc m))

-- the steps of the n-th power are looked at after those below it
pub found_at : (p : ℕ × ℕ → Bool) (n : ℕ) → find p (steps_below n) ≡ None → find p (steps_below (n + 1)) ≡ find p (steps_at (10 ^ n))
found_at p n none = ap (λ k. find p (steps_below k)) (add-one n) ∙ find-append p (steps_below n) (steps_at (10 ^ n))
    ∙ ap (λ o. option_or o (find p (steps_at (10 ^ n)))) none

-- the test of a step for so many ticks over a span
abbrev pub is_taken : ℕ → ℕ → ℕ × ℕ → Bool
is_taken span count step = nat_lt (span * million) (step.1 * count)

found_part : (o : Option (ℕ × ℕ)) (step : ℕ) → Some step ≡ option_map (λ (s : ℕ × ℕ). s.0) o → (s : ℕ × ℕ) × (o ≡ Some s) × (step ≡ s.0)
found_part None step h = cc
found_part (Some s) step h = (s, refl, cc)

none_found : (o : Option (ℕ × ℕ)) → None ≡ option_map (λ (s : ℕ × ℕ). s.0) o → o ≡ None
none_found None h = refl
none_found (Some s) h = cc

-- the first step that is taken decides
pub spaced_taken : (span count n power step : ℕ) → n < 23 → power ≡ 10 ^ n → find (is_taken span count) (steps_below n) ≡ None
    → Some step ≡ option_map (λ (s : ℕ × ℕ). s.0) (find (is_taken span count) (steps_at power))
    → Some step ≡ spaced span count
unfolding spaced
spaced_taken span count n power step h e none found =
    let at : Some step ≡ option_map (λ (s : ℕ × ℕ). s.0) (find (is_taken span count) (steps_at (10 ^ n))) =
    found ∙ ap (λ x. option_map (λ (s : ℕ × ℕ). s.0) (find (is_taken span count) (steps_at x))) e in
    let part = found_part _ step at in
    let upto : n + 1 ≤ 23 = omega arith in
    let whole = found_later (is_taken span count) (n + 1) 23 part.0 (found_at _ n none ∙ part.1) upto in
    ap Some part.2 ∙ sym (ap (option_map (λ (s : ℕ × ℕ). s.0)) whole)

-- where none is taken up to a power, the next power is tried
pub steps_passed : (p : ℕ × ℕ → Bool) (n power : ℕ) → power ≡ 10 ^ n → find p (steps_below n) ≡ None
    → None ≡ option_map (λ (s : ℕ × ℕ). s.0) (find p (steps_at power)) → find p (steps_below (n + 1)) ≡ None
steps_passed p n power e none next =
    found_at p n none ∙ none_found _ (next ∙ ap (λ x. option_map (λ (s : ℕ × ℕ). s.0) (find p (steps_at x))) e)

pub spaced_none : (span count : ℕ) → find (is_taken span count) (steps_below 23) ≡ None
    → None ≡ spaced span count
unfolding spaced
spaced_none span count none = sym (ap (option_map (λ (s : ℕ × ℕ). s.0)) none)

-- where one turn leaves a domain as it is, all turns do
pub widened_times_stays : (n count : ℕ) (domain : ℤ × ℤ) → widened count domain ≡ Some domain → widened_times n count domain ≡ Some domain
widened_times_stays zero count domain h = refl
widened_times_stays (suc n) count domain h = ap (λ o. o >>= widened_times n count) h ∙ widened_times_stays n count domain h

-- the powers of ten that are tried
pub power_in_reach : (n : ℕ) → n < 23 → 10 ^ n ≤ 10 * limit
power_in_reach n h = let low : 0 < 10 = omega arith in let at : n ≤ 22 = omega arith in pow-le-pow_right low at

-- one turn, and the turns after it
pub widened_times_more : (n k count : ℕ) (domain : ℤ × ℤ) (wider : Option (ℤ × ℤ)) → n ≡ k + 1 → wider ≡ widened count domain
    → widened_times n count domain ≡ (wider >>= widened_times k count)
widened_times_more n k count domain wider e h =
    ap (λ j. widened_times j count domain) (e ∙ add-one k) ∙ ap (λ o. o >>= widened_times k count) (sym h)
