-- Where the step stays, a domain that was widened stays.
use Rattle.std.proofs.Common.{◌≡◌, ℕ, zero, suc, ℤ, pos, neg_ℤ, ◌+ℤ◌, ◌*ℤ◌, ◌≤ℤ◌, ◌<ℤ◌, Option, Some, None, Bool, true, false, int_lt}
use Rattle.std.proofs.Common.{if◌then◌else◌, sym, ap, ◌∙◌, ⊎_elim, arith}
use Rattle.std.proofs.lemmas.Int.{ints}
use lib.IntN.{neg_ℤ-neg_ℤ}
use Rattle.fixed_num.specs.Number.{limit, floored, ceiled}
use Rattle.fixed_num.specs.Ranges.{◌>>=◌, in_range}
use Rattle.fixed_num.proofs.LawLemmas.{floored_is_multiple}
use Rattle.tick_kit.specs.Steps.{step_of, span_of, widened}
use Rattle.tick_kit.specs.StepLaws.{WideningStops}
use Rattle.tick_kit.proofs.MultipleLemmas.{multiples_apart}
use Rattle.tick_kit.proofs.TickLemmas.{cases_lt_int}

-- a multiple is its own multiple below, and above
same_multiple : (z y t u : ℤ) (s : ℕ) → z ≡ t *ℤ pos s → y ≡ u *ℤ pos s → y ≤ℤ z → z <ℤ (y +ℤ pos s) → y ≡ z
same_multiple z y t u s e f low near =
    ⊎_elim
    (λ (l : y <ℤ z). let up = multiples_apart u t s (omega (arith, ints, e, f, l)) in absurd (omega (arith, ints, up, near, e, f)))
    (λ (l : z ≤ℤ y). omega (arith, ints, l, low))
    (cases_lt_int y z)

floored_again : (m : ℤ) (s : ℕ) → floored (floored m (pos s)) (pos s) ≡ floored m (pos s)
unfolding floored
floored_again m zero = omega (arith, ints)
floored_again m (suc s) =
    let some : pos 0 <ℤ pos (suc s) = omega (arith, ints) in
    let here = floored_is_multiple m (pos (suc s)) some in
    let again = floored_is_multiple (floored m (pos (suc s))) (pos (suc s)) some in
    same_multiple (floored m (pos (suc s))) (floored (floored m (pos (suc s))) (pos (suc s))) here.times again.times (suc s) here.multiple
    again.multiple again.not_above again.nearest

ceiled_again : (m : ℤ) (s : ℕ) → ceiled (ceiled m (pos s)) (pos s) ≡ ceiled m (pos s)
unfolding ceiled
ceiled_again m s =
    ap (λ z. neg_ℤ (floored z (pos s))) (neg_ℤ-neg_ℤ (floored (neg_ℤ m) (pos s))) ∙ ap neg_ℤ (floored_again (neg_ℤ m) s)

-- what is in range is the number itself
in_range_is : (x y : ℤ) → in_range x ≡ Some y → x ≡ y
in_range_is x y h = by_tests (int_lt x (neg_ℤ (pos limit))) (int_lt (pos limit) x) h
  where
    by_tests : (below above : Bool) → (if below then None else (if above then None else Some x)) ≡ Some y → x ≡ y
    by_tests true above e = cc
    by_tests false true e = cc
    by_tests false false e = cc

-- both ends are there
both : (low high : Option ℤ) (wider : ℤ × ℤ) → (low >>= λ a. high >>= λ b. Some (a, b)) ≡ Some wider → (low ≡ Some wider.0) × (high ≡ Some wider.1)
both None high wider e = cc
both (Some a) None wider e = cc
both (Some a) (Some b) wider e = (cc, cc)

-- a domain by its step
ends_by : ℤ × ℤ → ℕ → Option (ℤ × ℤ)
ends_by domain step = in_range (floored domain.0 (pos step)) >>= λ low. in_range (ceiled domain.1 (pos step)) >>= λ high. Some (low, high)

widened_by : (count step : ℕ) (domain : ℤ × ℤ) → step_of (span_of domain) count ≡ Some step → widened count domain ≡ ends_by domain step
unfolding ends_by
widened_by count step domain e = ap (λ o. o >>= λ s. ends_by domain s) e

pub widening_stops : WideningStops
unfolding ends_by
widening_stops count step domain wider is before after =
    let ends = both (in_range (floored domain.0 (pos step))) (in_range (ceiled domain.1 (pos step))) wider (sym (widened_by count step domain before) ∙ is) in
    let low = in_range_is (floored domain.0 (pos step)) wider.0 ends.0 in
    let high = in_range_is (ceiled domain.1 (pos step)) wider.1 ends.1 in
    let low_stays : floored wider.0 (pos step) ≡ floored domain.0 (pos step) =
    ap (λ z. floored z (pos step)) (sym low) ∙ floored_again domain.0 step in
    let high_stays : ceiled wider.1 (pos step) ≡ ceiled domain.1 (pos step) =
    ap (λ z. ceiled z (pos step)) (sym high) ∙ ceiled_again domain.1 step in
    widened_by count step wider after
    ∙ ap (λ z. in_range z >>= λ a. in_range (ceiled wider.1 (pos step)) >>= λ b. Some (a, b)) low_stays
    ∙ ap (λ z. in_range (floored domain.0 (pos step)) >>= λ a. in_range z >>= λ b. Some (a, b)) high_stays
    ∙ sym (widened_by count step domain before) ∙ is
