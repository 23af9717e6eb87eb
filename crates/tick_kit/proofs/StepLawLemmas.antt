-- Why each spacing has one step, which the first that is taken is.
use Rattle.std.proofs.Common.{◌≡◌, ℕ, ◌*◌, ◌^◌, ◌<◌, ◌≤◌, ◌⊎◌, inl, inr, Bool, true, false, Option, Some, None, zero, suc, nat_lt, nat_le, if◌then◌else◌}
use Rattle.std.proofs.Common.{⊎_elim, arith, refl, sym, ap, ◌∙◌, add-one, subst, [], ◌∷◌, ℤ, pos, unsigned_abs}
use Rattle.std.specs.List.{find}
use Rattle.std.specs.Option.{option_map}
use Rattle.std.proofs.lemmas.Bool.{cases_lt, ltb-true}
use Rattle.std.proofs.lemmas.Bool.Decides.{nat_tests}
use Rattle.std.proofs.Math.Nat.{pow-succ', mul-le-mul_left, mul-le-mul_right}
use Rattle.fixed_num.specs.Number.{limit, million}
use Rattle.fixed_num.specs.Ranges.{◌>>=◌}
use Rattle.tick_kit.specs.Steps.{IsStep, one_times, two_times, five_times, least, steps_at, steps_below, spaced, step_of}
use Rattle.tick_kit.specs.StepLaws.{OneStep, AnswersStep}
use Rattle.tick_kit.proofs.StepLemmas.{found_at, found_later, is_taken}

-- ---- steps by their rank: 1, 2, 5, 10, 20, 50, ..

-- from which spacing a step is taken, in ten-millionths
abbrev bound : ℕ → ℕ
bound zero = 7071068
bound (suc zero) = 14142140
bound (suc (suc zero)) = 31622780
bound (suc (suc (suc i))) = 10 * bound i

abbrev ranked : ℕ → ℕ
ranked zero = 1
ranked (suc zero) = 2
ranked (suc (suc zero)) = 5
ranked (suc (suc (suc i))) = 10 * ranked i

abbrev rank_of_power : ℕ → ℕ
rank_of_power zero = zero
rank_of_power (suc k) = suc (suc (suc (rank_of_power k)))

bound_rises : (i : ℕ) → bound i ≤ bound (suc i)
bound_rises zero = omega arith
bound_rises (suc zero) = omega arith
bound_rises (suc (suc zero)) = omega arith
bound_rises (suc (suc (suc i))) = omega (arith, bound_rises i)

bound_grows : (i j : ℕ) → i ≤ j → bound i ≤ bound j
bound_grows i zero h = let e : i ≡ 0 = omega arith in let f = ap bound e in omega (arith, f)
bound_grows i (suc j) h =
    ⊎_elim
    (λ (l : i < suc j). let below : i ≤ j = omega arith in omega (arith, bound_grows i j below, bound_rises j))
    (λ (l : suc j ≤ i). let e : i ≡ suc j = omega arith in let f = ap bound e in omega (arith, f))
    (cases_lt i (suc j))

power_bound : (k : ℕ) → (bound (rank_of_power k) ≡ 7071068 * 10 ^ k) × (bound (suc (rank_of_power k)) ≡ 14142140 * 10 ^ k)
    × (bound (suc (suc (rank_of_power k))) ≡ 31622780 * 10 ^ k)
power_bound zero = (refl, refl, refl)
power_bound (suc k) =
    let here = power_bound k in let e = pow-succ' 10 k in let a = here.0 in let b = here.1 in let d = here.2 in
    (omega (arith, a, e), omega (arith, b, e), omega (arith, d, e))

power_ranked : (k : ℕ) → (ranked (rank_of_power k) ≡ 10 ^ k) × (ranked (suc (rank_of_power k)) ≡ 2 * 10 ^ k)
    × (ranked (suc (suc (rank_of_power k))) ≡ 5 * 10 ^ k)
power_ranked zero = (refl, refl, refl)
power_ranked (suc k) =
    let here = power_ranked k in let e = pow-succ' 10 k in let a = here.0 in let b = here.1 in let d = here.2 in
    (omega (arith, a, e), omega (arith, b, e), omega (arith, d, e))

-- the step of a rank
record IsRanked (span count step : ℕ) : Type 0 where
  rank : ℕ
  is : step ≡ ranked rank
  from : (rank ≡ 0) ⊎ (bound rank * count ≤ span * 10000000)
  before : span * 10000000 < bound (suc rank) * count

by_rank : (span count step : ℕ) → IsStep span count step → IsRanked span count step
by_rank span count step (one_times k e b) =
    let bounds = power_bound k in let from = bounds.0 in let before = bounds.1 in
    record {
      rank = rank_of_power k;
      is = e ∙ sym ((power_ranked k).0);
      from = inr (rw from (b.0));
      before = rw before (b.1);
    }
by_rank span count step (two_times k e b) =
    let bounds = power_bound k in let from = bounds.1 in let before = bounds.2 in
    record {
      rank = suc (rank_of_power k);
      is = e ∙ sym ((power_ranked k).1);
      from = inr (rw from (b.0));
      before = rw before (b.1);
    }
by_rank span count step (five_times k e b) =
    let bounds = power_bound k in let from = bounds.2 in let low = bounds.0 in
    let before : 10 * bound (rank_of_power k) ≡ 70710680 * 10 ^ k = omega (arith, low) in
    record {
      rank = suc (suc (rank_of_power k));
      is = e ∙ sym ((power_ranked k).2);
      from = inr (rw from (b.0));
      before = rw before (b.1);
    }
by_rank span count step (least e b) = record {
  rank = 0;
  is = e;
  from = inl refl;
  before = omega (arith, b);
}

no_later : (span count i j : ℕ) → span * 10000000 < bound (suc i) * count → (j ≡ 0) ⊎ (bound j * count ≤ span * 10000000) → j ≤ i
no_later span count i j high (inl e) = omega (arith, e)
no_later span count i j high (inr low) =
    ⊎_elim
    (λ (l : i < j). let next : suc i ≤ j = omega arith in absurd (omega (arith, high, low, mul-le-mul_right count (bound_grows (suc i) j next))))
    (λ (l : j ≤ i). l)
    (cases_lt i j)

pub one_step_only : (span count a b : ℕ) → IsStep span count a → IsStep span count b → a ≡ b
one_step_only span count a b ia ib =
    let ra = by_rank span count a ia in let rb = by_rank span count b ib in
    let up = no_later span count ra.rank rb.rank ra.before rb.from in
    let down = no_later span count rb.rank ra.rank rb.before ra.from in
    let same : ra.rank ≡ rb.rank = omega (arith, up, down) in
    ra.is ∙ ap ranked same ∙ sym rb.is

-- ---- the first that is taken

-- which of three is the first that passes
data IsFirst (p : ℕ × ℕ → Bool) (a b c : ℕ × ℕ) : Type 0 where
  first : find p (a ∷ b ∷ c ∷ []) ≡ Some a → p a ≡ true → IsFirst p a b c
  second : find p (a ∷ b ∷ c ∷ []) ≡ Some b → p a ≡ false → p b ≡ true → IsFirst p a b c
  third : find p (a ∷ b ∷ c ∷ []) ≡ Some c → p b ≡ false → p c ≡ true → IsFirst p a b c
  neither : find p (a ∷ b ∷ c ∷ []) ≡ None → p c ≡ false → IsFirst p a b c

first_by : (p : ℕ × ℕ → Bool) (a b c : ℕ × ℕ) (u v w : Bool) → p a ≡ u → p b ≡ v → p c ≡ w → IsFirst p a b c
first_by p a b c true v w e f g = first (rw e refl) e
first_by p a b c false true w e f g = second (rw e (rw f refl)) e f
first_by p a b c false false true e f g = third (rw e (rw f (rw g refl))) f g
first_by p a b c false false false e f g = neither (rw e (rw f (rw g refl))) g

-- from which spacing the steps of a power are looked at
abbrev IsReached : ℕ → ℕ → ℕ → Type 0
IsReached span count k = (k ≡ 0) ⊎ (7071068 * 10 ^ k * count ≤ span * 10000000)

-- what a search below a power of ten comes to
data Sought (span count k : ℕ) (o : Option (ℕ × ℕ)) : Type 0 where
  passed : o ≡ None → IsReached span count k → Sought span count k o
  found : (s : ℕ × ℕ) → o ≡ Some s → IsStep span count s.0 → Sought span count k o

ltb-false : (a b : ℕ) → nat_lt a b ≡ false → b ≤ a
ltb-false a b h = grind (arith, nat_tests)

one_time : (span count k : ℕ) → IsReached span count k → span * million < 1414214 * 10 ^ k * count → IsStep span count (10 ^ k)
one_time span count k (inr low) high = one_times k refl (low, omega (arith, high))
one_time span count k (inl e) high =
    let one : 10 ^ k ≡ 1 = ap (λ j. 10 ^ j) e in
    ⊎_elim
    (λ (l : span * 10000000 < 7071068 * count). least one l)
    (λ (l : 7071068 * count ≤ span * 10000000). let low : 7071068 * 10 ^ k * count ≤ span * 10000000 = rw one l in
    one_times k refl (low, omega (arith, high)))
    (cases_lt (span * 10000000) (7071068 * count))

at_power : (span count k : ℕ) → IsReached span count k
    → IsFirst (is_taken span count) (10 ^ k, 1414214 * 10 ^ k) (2 * 10 ^ k, 3162278 * 10 ^ k) (5 * 10 ^ k, 7071068 * 10 ^ k)
    → Sought span count (suc k) (find (is_taken span count) (steps_at (10 ^ k)))
at_power span count k from (first e t) =
    let high = ltb-true _ _ t in found _ e (one_time span count k from high)
at_power span count k from (second e f t) =
    let low = ltb-false _ _ f in let high = ltb-true _ _ t in found _ e (two_times k refl (omega (arith, low), omega (arith, high)))
at_power span count k from (third e f t) =
    let low = ltb-false _ _ f in let high = ltb-true _ _ t in found _ e (five_times k refl (omega (arith, low), omega (arith, high)))
at_power span count k from (neither e f) =
    let low = ltb-false _ _ f in let more = pow-succ' 10 k in passed e (inr (rw more (omega (arith, low))))

next_power : (span count k : ℕ) → Sought span count k (find (is_taken span count) (steps_below k))
    → Sought span count (suc k) (find (is_taken span count) (steps_below (suc k)))
next_power span count k (found s e is) =
    let later : k ≤ suc k = omega arith in found s (found_later (is_taken span count) k (suc k) s e later) is
next_power span count k (passed e from) =
    let here = at_power span count k from (first_by (is_taken span count) _ _ _ _ _ _ refl refl refl) in
    let same : find (is_taken span count) (steps_below (suc k)) ≡ find (is_taken span count) (steps_at (10 ^ k)) =
    ap (λ j. find (is_taken span count) (steps_below j)) (sym (add-one k)) ∙ found_at (is_taken span count) k e in
    subst (Sought span count (suc k)) (sym same) here

sought : (span count k : ℕ) → Sought span count k (find (is_taken span count) (steps_below k))
sought span count zero = passed refl (inl refl)
sought span count (suc k) = next_power span count k (sought span count k)

-- 23 powers of ten are enough
is_found : (span count : ℕ) (o : Option (ℕ × ℕ)) → span ≤ 2 * limit → 0 < count → Sought span count 23 o
    → (step : ℕ) × (option_map (λ (s : ℕ × ℕ). s.0) o ≡ Some step) × IsStep span count step
is_found span count o most some (found s e is) = (s.0, ap (option_map (λ (s : ℕ × ℕ). s.0)) e, is)
is_found span count o most some (passed e (inl z)) = absurd (omega (arith, z))
is_found span count o most some (passed e (inr low)) =
    let one : 7071068 * 10 ^ 23 * 1 ≤ 7071068 * 10 ^ 23 * count = mul-le-mul_left (7071068 * 10 ^ 23) some in
    absurd (omega (arith, low, most, one))

pub spaced_is : (span count : ℕ) → span ≤ 2 * limit → 0 < count → (step : ℕ) × (spaced span count ≡ Some step) × IsStep span count step
unfolding spaced
spaced_is span count most some = is_found span count _ most some (sought span count 23)

pub each_has_one_step : (span count : ℕ) → span ≤ 2 * limit → 0 < count → OneStep span count
each_has_one_step span count most some =
    let here = spaced_is span count most some in
    record {
      step = here.0;
      is = here.2;
      only = λ other is. one_step_only span count other here.0 is here.2;
    }

answers_by : (span count step : ℕ) (small : Bool) → nat_le step limit ≡ small → IsStep span count step
    → AnswersStep span count (if small then Some step else None)
answers_by span count step true h is = (grind (arith, nat_tests), is)
answers_by span count step false h is = (step, grind (arith, nat_tests), is)

-- the step as a function answers the step
pub answers_step : (span count : ℕ) → span ≤ 2 * limit → 0 < count → AnswersStep span count (step_of span count)
unfolding step_of
answers_step span count most some =
    let here = spaced_is span count most some in
    let is = here.1 in
    let decided : AnswersStep span count (if nat_le here.0 limit then Some here.0 else None) = answers_by span count here.0 _ refl here.2 in
    subst (AnswersStep span count) (sym (ap (λ o. o >>= (λ step. if nat_le step limit then Some step else None)) is)) decided

as_numbers : (o : Option ℕ) → option_map unsigned_abs (option_map pos o) ≡ o
as_numbers None = refl
as_numbers (Some n) = refl

-- and so it does as a number
pub answers_step_between : (span count : ℕ) (o : Option ℤ) → span ≤ 2 * limit → 1 ≤ count
    → o ≡ option_map pos (step_of span count) → AnswersStep span count (option_map unsigned_abs o)
answers_step_between span count o most some is =
    subst (AnswersStep span count) (sym (ap (option_map unsigned_abs) is ∙ as_numbers _)) (answers_step span count most some)
