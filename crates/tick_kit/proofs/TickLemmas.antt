-- Numbers a step apart are the multiples of it in a domain.
use Rattle.std.proofs.Common.{◌≡◌, ℕ, zero, suc, ◌+◌, ◌-◌, ◌*◌, ◌/◌, ◌<◌, ◌≤◌, ◌⊎◌, ℤ, pos, negsuc, neg_ℤ, ◌+ℤ◌, ◌-ℤ◌, ◌*ℤ◌, ◌≤ℤ◌, ◌<ℤ◌}
use Rattle.std.proofs.Common.{unsigned_abs, List, [], ◌∷◌, ◌++◌, sym, ap, ◌∙◌, arith, inl, inr, ⊎_elim}
use Rattle.std.proofs.lemmas.Int.{ints}
use Rattle.std.proofs.lemmas.List.{append_assoc, append-nil}
use Rattle.std.proofs.lemmas.Bool.{cases_lt}
use Rattle.std.proofs.Math.Nat.{div-add-mod', div-eq_of_lt}
use Rattle.fixed_num.specs.Number.{limit, ceiled, IsNumber}
use Rattle.tick_kit.specs.Ticks.{numbers_apart, count_apart, multiples_in}
use Rattle.tick_kit.proofs.RangeLemmas.{ceiled_above, ceiled_near}

-- ---- the loop over numbers a step apart

pub apart_more : (n i : ℕ) (step at : ℤ) → i < n → numbers_apart (n - i) step at ≡ at ∷ numbers_apart (n - (i + 1)) step (at +ℤ step)
apart_more n i step at h = let e : n - i ≡ suc (n - (i + 1)) = omega arith in ap (λ k. numbers_apart k step at) e

-- after one more
pub pushed : (n i : ℕ) (step at : ℤ) (old new whole : List ℤ) → i < n → old ++ numbers_apart (n - i) step at ≡ whole → new ≡ old ++ at ∷ []
    → new ++ numbers_apart (n - (i + 1)) step (at +ℤ step) ≡ whole
pushed n i step at old new whole h is e =
    ap (λ x. x ++ numbers_apart (n - (i + 1)) step (at +ℤ step)) e ∙ append_assoc old (at ∷ []) (numbers_apart (n - (i + 1)) step (at +ℤ step))
    ∙ sym (ap (λ x. old ++ x) (apart_more n i step at h)) ∙ is

-- at the end
pub all_pushed : (n i : ℕ) (step at : ℤ) (old whole : List ℤ) → n ≤ i → old ++ numbers_apart (n - i) step at ≡ whole → old ≡ whole
all_pushed n i step at old whole h is =
    let e : n - i ≡ 0 = omega arith in
    sym (append-nil old) ∙ sym (ap (λ k. old ++ numbers_apart k step at) e) ∙ is

-- so many steps are left, and the next number is out of range only after the last
times_suc : (k : ℕ) (step : ℤ) → pos (suc k) *ℤ step ≡ step +ℤ pos k *ℤ step
times_suc k (pos s) = omega (arith, ints)
times_suc k (negsuc s) = omega (arith, ints)

times_not_below : (k : ℕ) (step : ℤ) → pos 0 <ℤ step → pos 0 ≤ℤ (pos k *ℤ step)
times_not_below k (pos s) h = omega (arith, ints)
times_not_below k (negsuc s) h = absurd (omega (arith, ints))

pub last_one : (n i : ℕ) (step at : ℤ) → i < n → pos 0 <ℤ step → neg_ℤ (pos limit) ≤ℤ at
    → (at +ℤ pos (n - i) *ℤ step) ≤ℤ (pos limit +ℤ step) → ¬ IsNumber (at +ℤ step) → n ≤ i + 1
last_one n i step at h some low high none =
    ⊎_elim
    (λ (l : i + 1 < n).
    let k : ℕ = n - (i + 2) in
    let left : n - i ≡ suc (suc k) = omega arith in
    let count : pos (n - i) *ℤ step ≡ step +ℤ (step +ℤ pos k *ℤ step) =
    ap (λ j. pos j *ℤ step) left ∙ times_suc (suc k) step ∙ ap (λ x. step +ℤ x) (times_suc k step) in
    let rest = times_not_below k step some in
    absurd (none (omega (arith, ints, low, some), omega (arith, ints, high, count, rest))))
    (λ (l : n ≤ i + 1). l)
    (cases_lt (i + 1) n)

pub still_below : (n i : ℕ) (step at next : ℤ) → i < n → (at +ℤ pos (n - i) *ℤ step) ≤ℤ (pos limit +ℤ step) → next ≡ at +ℤ step
    → (next +ℤ pos (n - (i + 1)) *ℤ step) ≤ℤ (pos limit +ℤ step)
still_below n i step at next h high e =
    let left : n - i ≡ suc (n - (i + 1)) = omega arith in
    let count : pos (n - i) *ℤ step ≡ step +ℤ pos (n - (i + 1)) *ℤ step = ap (λ j. pos j *ℤ step) left ∙ times_suc (n - (i + 1)) step in
    omega (arith, ints, high, count, e)

-- ---- the multiples in a domain

-- how many there are: none where the first is past the end, and else up to less than a step before the end
pub counted : (step first high : ℤ) → pos 0 <ℤ step → first ≤ℤ (high +ℤ step)
    → (first +ℤ pos (count_apart step first high) *ℤ step) ≤ℤ (high +ℤ step)
counted (pos s) first high some h =
    let room = unsigned_abs (high +ℤ pos s -ℤ first) in
    let parts = div-add-mod' room s in
    let product : pos (room / s) *ℤ pos s ≡ pos (room / s * s) = omega (arith, ints) in
    omega (arith, ints, h, parts, product)
counted (negsuc s) first high some h = absurd (omega (arith, ints))

pub none_counted : (step first high : ℤ) → high <ℤ first → first <ℤ (high +ℤ step) → count_apart step first high ≡ 0
none_counted (pos s) first high past near =
    let small : unsigned_abs (high +ℤ pos s -ℤ first) < s = omega (arith, ints) in div-eq_of_lt small
none_counted (negsuc s) first high past near = absurd (omega (arith, ints))

-- which of two whole numbers is less
pub cases_lt_int : (a b : ℤ) → (a <ℤ b) ⊎ (b ≤ℤ a)
cases_lt_int a b = by_difference a b (b -ℤ a) (omega (arith, ints))
  where
    by_difference : (a b d : ℤ) → b ≡ a +ℤ d → (a <ℤ b) ⊎ (b ≤ℤ a)
    by_difference a b (pos zero) e = inr (omega (arith, ints, e))
    by_difference a b (pos (suc n)) e = inl (omega (arith, ints, e))
    by_difference a b (negsuc n) e = inr (omega (arith, ints, e))

past_limit : (hi z : ℤ) → hi ≤ℤ pos limit → (z ≤ℤ pos limit → ⊥) → hi <ℤ z
past_limit hi z high out =
    ⊎_elim (λ (l : pos limit <ℤ z). omega (arith, ints, high, l)) (λ (l : z ≤ℤ pos limit). absurd (out l)) (cases_lt_int (pos limit) z)

pub no_multiple : (lo hi step : ℤ) → pos 0 <ℤ step → lo ≤ℤ hi → neg_ℤ (pos limit) ≤ℤ lo → hi ≤ℤ pos limit → ¬ IsNumber (ceiled lo step)
    → [] ≡ multiples_in step (lo, hi)
unfolding multiples_in
no_multiple lo hi step some h low high none =
    let above = ceiled_above lo step some in let near = ceiled_near lo step some in
    let out : ceiled lo step ≤ℤ pos limit → ⊥ = λ within. none (omega (arith, ints, above, low), within) in
    let past : hi <ℤ ceiled lo step = past_limit hi (ceiled lo step) high out in
    let n = none_counted step (ceiled lo step) hi past (omega (arith, ints, near, h)) in
    sym (ap (λ k. numbers_apart k step (ceiled lo step)) n)

pub multiples_are : (lo hi step first : ℤ) (n : ℕ) → first ≡ ceiled lo step
    → n ≡ count_apart step first hi → numbers_apart n step first ≡ multiples_in step (lo, hi)
unfolding multiples_in
multiples_are lo hi step first n e f =
    ap (λ k. numbers_apart k step first) f ∙ ap (λ z. numbers_apart (count_apart step z hi) step z) e
