-- Boundaries among days, and at the instants at which days begin.
use Rattle.std.proofs.Common.{◌≡◌, ℕ, ◌/◌, ◌%◌, ◌<◌, ◌≤◌, ◌==◌, ◌&&◌, Bool, true, false, refl, sym, ap, ◌∙◌, inl, inr, arith, ℤ, pos, neg_ℤ}
use Rattle.std.proofs.Common.{◌≤ℤ◌, ◌+ℤ◌, ◌*ℤ◌, unsigned_abs}
use Rattle.std.proofs.lemmas.Bool.{cases_lt, and_parts, and_from, eqb-true}
use Rattle.std.proofs.lemmas.Int.{ints}
use Rattle.time_calc.specs.Calendar.{year_of_count, date_of_count, date_of_day}
use Rattle.time_calc.specs.Instants.{day_of_instant, time_of_instant}
use Rattle.time_calc.specs.Boundaries.{begins_day}
use Rattle.time_calc.proofs.CalendarLemmas.{years_grow, year_starts}
use Rattle.time_calc.proofs.DatetimeLemmas.{year_9999}
use Rattle.time_calc.proofs.BoundaryFrame.{IsLastOf, IsFirstOf, not_true}
use Rattle.time_calc.proofs.BoundaryClocks.{rest_of_day, moment_of, rest_small, day_and_rest_of}

-- the years of the days that instants in range have
year_below_9999 : (count : ℕ) → count < 3652060 → year_of_count count ≤ 9998
year_below_9999 count h =
    elim (cases_lt (year_of_count count) 9999) as (λ w. year_of_count count ≤ 9998) [
      | inl lt ↦ omega (arith, lt)
      | inr ge ↦ absurd (omega (arith, h, years_grow 9999 (year_of_count count) ge, year_starts count, year_9999))
    ]

pub year_of_day : (day : ℤ) → neg_ℤ (pos 719162) ≤ℤ day → day ≤ℤ pos 2932531 → (date_of_day day).year ≤ 9998
unfolding date_of_count
year_of_day day low high = year_below_9999 (unsigned_abs (day +ℤ pos 719528)) (omega (arith, ints, low, high))

-- ---- the instants at which days begin

abbrev midnight_test : ℕ → Bool
midnight_test m = (((m % 1000 == 0) && (m / 1000 % 60 == 0)) && (m / 60000 % 60 == 0)) && (m / 3600000 == 0)

begins_at_midnight : (i : ℤ) → begins_day i ≡ midnight_test (rest_of_day i)
unfolding time_of_instant rest_of_day
begins_at_midnight i = refl

midnight : (m : ℕ) → midnight_test m ≡ true → m ≡ 0
midnight m e =
    let all = and_parts _ _ e in let front = and_parts _ _ all.0 in let start = and_parts _ _ front.0 in
    let a = eqb-true (m % 1000) 0 start.0 in let b = eqb-true (m / 1000 % 60) 0 start.1 in
    let c = eqb-true (m / 60000 % 60) 0 front.1 in let d = eqb-true (m / 3600000) 0 all.1 in
    omega (arith, a, b, c, d)

-- a day begins at its start
day_start : (q : ℤ) → (begins_day (q *ℤ pos 86400000) ≡ true) × (day_of_instant (q *ℤ pos 86400000) ≡ q)
day_start q =
    let parts = day_and_rest_of q 0 (omega arith) in
    let none : q *ℤ pos 86400000 +ℤ pos 0 ≡ q *ℤ pos 86400000 = omega (arith, ints) in
    let rest : rest_of_day (q *ℤ pos 86400000) ≡ 0 = ap rest_of_day (sym none) ∙ parts.1 in
    (begins_at_midnight (q *ℤ pos 86400000) ∙ ap midnight_test rest, ap day_of_instant (sym none) ∙ parts.0)

-- an instant at which a day begins is its start
starts_its_day : (i : ℤ) → begins_day i ≡ true → day_of_instant i *ℤ pos 86400000 ≡ i
starts_its_day i e =
    let none = midnight (rest_of_day i) (sym (begins_at_midnight i) ∙ e) in
    let is = moment_of i in
    omega (arith, ints, none, is)

module _ (B : ℤ → Bool) where
  pub last_at_midnight : (i b : ℤ) → IsLastOf B (day_of_instant i) b → IsLastOf (λ j. begins_day j && B (day_of_instant j)) i (b *ℤ pos 86400000)
  last_at_midnight i b last =
      let is = moment_of i in
      let start = day_start b in
      let upto = last.not_after in
      record {
        not_after = omega (arith, ints, upto, is);
        hit = and_from _ _ start.0 (ap B start.1 ∙ last.hit);
        none = λ j above under. not_true (begins_day j && B (day_of_instant j)) (λ holds.
            let both = and_parts _ _ holds in
            let here = starts_its_day j both.0 in
            let small = rest_small i in
            let no = last.none (day_of_instant j) (omega (arith, ints, here, above)) (omega (arith, ints, here, under, is, small)) in
            absurd (false_is_true (sym both.1 ∙ no)));
      }
    where
      false_is_true : true ≡ false → ⊥
      false_is_true e = cc

  pub first_at_midnight : (i b limit : ℤ) → IsFirstOf B limit (day_of_instant i) b
      → IsFirstOf (λ j. begins_day j && B (day_of_instant j)) (limit *ℤ pos 86400000) i (b *ℤ pos 86400000)
  first_at_midnight i b limit first =
      let is = moment_of i in let small = rest_small i in
      let start = day_start b in
      let over = first.after in
      record {
        after = omega (arith, ints, over, is, small);
        hit = λ within. and_from _ _ start.0 (ap B start.1 ∙ first.hit (omega (arith, ints, within)));
        none = λ j above under. not_true (begins_day j && B (day_of_instant j)) (λ holds.
            let both = and_parts _ _ holds in
            let here = starts_its_day j both.0 in
            let no = first.none (day_of_instant j) (omega (arith, ints, here, above, is)) (omega (arith, ints, here, under)) in
            absurd (false_is_true (sym both.1 ∙ no)));
      }
    where
      false_is_true : true ≡ false → ⊥
      false_is_true e = cc

-- the same test, spelled otherwise
pub last_same : (A B : ℤ → Bool) (i b : ℤ) → ((j : ℤ) → A j ≡ B j) → IsLastOf A i b → IsLastOf B i b
last_same A B i b same last = record {
  not_after = last.not_after;
  hit = sym (same b) ∙ last.hit;
  none = λ j above under. sym (same j) ∙ last.none j above under;
}

pub first_same : (A B : ℤ → Bool) (limit i b : ℤ) → ((j : ℤ) → A j ≡ B j) → IsFirstOf A limit i b → IsFirstOf B limit i b
first_same A B limit i b same first = record {
  after = first.after;
  hit = λ within. sym (same b) ∙ first.hit within;
  none = λ j above under. sym (same j) ∙ first.none j above under;
}

pub and_joined : (a b c : Bool) → a && (b && c) ≡ (a && b) && c
and_joined true b c = refl
and_joined false b c = refl

pub and_joined_twice : (a b c d : Bool) → a && ((b && c) && d) ≡ ((a && b) && c) && d
and_joined_twice true b c d = refl
and_joined_twice false b c d = refl
