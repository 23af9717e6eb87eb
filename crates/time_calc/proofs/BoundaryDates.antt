-- Boundaries of days, months, quarters and years among the days from 1 January of the year 0.
use Rattle.std.proofs.Common.{◌≡◌, ℕ, ◌+◌, ◌-◌, ◌*◌, ◌/◌, ◌%◌, ◌<◌, ◌≤◌, ◌==◌, ◌&&◌, Bool, true, refl, sym, ap, ◌∙◌, arith, inl, inr, ℤ}
use Rattle.std.proofs.Common.{pos, ◌+ℤ◌, ◌-ℤ◌, ◌≤ℤ◌, ◌<ℤ◌, unsigned_abs}
use Rattle.std.proofs.Math.Nat.{zero-mod}
use Rattle.std.proofs.lemmas.Bool.{and_parts, and_from, eqb-true, cases_lt}
use Rattle.std.proofs.lemmas.Bool.Decides.{nat_tests}
use Rattle.std.proofs.lemmas.Int.{ints}
use Rattle.time_calc.specs.declared.calendar.Date.{Date}
use Rattle.time_calc.specs.Calendar.{is_leap, days_of_month, days_before_year, days_of_months, days_of_year, day_count, date_of_count}
use Rattle.time_calc.proofs.CalendarLemmas.{HasParts, years_follow, years_grow, months_make_the_year, months_follow, months_grow, year_is}
use Rattle.time_calc.proofs.CalendarLemmas.{date_of_its_count, count_of_its_date, count_has_date}
use Rattle.time_calc.proofs.BoundaryFrame.{Divides}

-- ---- counts and days

-- the same as `Divides`, for days counted from 1 January of the year 0
record DividesCounts (B : ℕ → Bool) (at : ℕ → ℕ) (n count : ℕ) : Type 0 where
  grows : (a b : ℕ) → a < b → b ≤ count → at a < at b
  hits : (k : ℕ) → k < count → k % n ≡ 0 → B (at k) ≡ true
  only : (c : ℕ) → at 0 ≤ c → c < at count → B c ≡ true → (k : ℕ) × (k < count) × (c ≡ at k) × (k % n ≡ 0)

unfoldable pub count_of_day : ℤ → ℕ
count_of_day day = unsigned_abs (day +ℤ pos 719528)

abbrev pub day_at : ℕ → ℤ
day_at c = pos c -ℤ pos 719528

count_back : (c : ℕ) → count_of_day (day_at c) ≡ c
unfolding count_of_day
count_back c = let e : pos c -ℤ pos 719528 +ℤ pos 719528 ≡ pos c = omega (arith, ints) in ap unsigned_abs e

pub day_back : (day : ℤ) (c : ℕ) → day_at c ≤ℤ day → day_at (count_of_day day) ≡ day
unfolding count_of_day
day_back day c h = omega (arith, ints, h)

to_days : (B : ℕ → Bool) (at : ℕ → ℕ) (n count : ℕ) → DividesCounts B at n count → Divides (λ day. B (count_of_day day)) (λ k. day_at (at k)) n count
to_days B at n count d = record {
  grows = λ a b less upto. let g = d.grows a b less upto in omega (arith, ints, g);
  hits = λ k below multiple. ap B (count_back (at k)) ∙ d.hits k below multiple;
  only = λ j low high holds.
      let back = day_back j (at 0) low in
      let (k, below, is, multiple) = d.only (count_of_day j) (omega (arith, ints, back, low)) (omega (arith, ints, back, high)) holds in
      (k, below, sym back ∙ ap day_at is, multiple);
}

-- ---- dates

pub some_days : (leap : Bool) (month : ℕ) → 1 ≤ days_of_month leap month
some_days leap month = grind (arith, nat_tests)

months_increase : (leap : Bool) (a b : ℕ) → a < b → days_of_months leap a < days_of_months leap b
months_increase leap a b h =
    omega (arith, months_follow leap b (omega (arith, h)), months_grow leap a (b - 1) (omega (arith, h)), some_days leap b)

date : ℕ → ℕ → ℕ → Date
date y m d = record { year = y; month = m; day = d }

-- the date of a day of a month
date_in_month : (y k d : ℕ) → k < 12 → d < days_of_month (is_leap y) (k + 1) →
    date_of_count (days_before_year y + days_of_months (is_leap y) k + d) ≡ date y (k + 1) (d + 1)
unfolding day_count date
date_in_month y k d h inside =
    let back : k + 1 - 1 ≡ k = omega arith in
    let before : days_of_months (is_leap y) (k + 1 - 1) ≡ days_of_months (is_leap y) k = ap (days_of_months (is_leap y)) back in
    let count : days_before_year y + days_of_months (is_leap y) k + d ≡ days_before_year y + days_of_months (is_leap y) (k + 1 - 1) + (d + 1 - 1) =
    omega (arith, before) in
    ap date_of_count count ∙ date_of_its_count (record { year = y; month = k + 1; day = d + 1 }) (record {
      month_low = omega arith;
      month_high = omega (arith, h);
      day_low = omega arith;
      day_high = omega (arith, inside);
    })

no_month : (leap : Bool) → days_of_months leap 0 ≡ 0
unfolding days_of_months
no_month leap = refl

month_start : (y k : ℕ) → k < 12 → date_of_count (days_before_year y + days_of_months (is_leap y) k) ≡ date y (k + 1) 1
month_start y k h =
    let e : days_before_year y + days_of_months (is_leap y) k ≡ days_before_year y + days_of_months (is_leap y) k + 0 = omega arith in
    ap date_of_count e ∙ date_in_month y k 0 h (some_days (is_leap y) (k + 1))

year_start : (y : ℕ) → date_of_count (days_before_year y) ≡ date y 1 1
year_start y =
    let none = no_month (is_leap y) in
    let e : days_before_year y ≡ days_before_year y + days_of_months (is_leap y) 0 = omega (arith, none) in
    ap date_of_count e ∙ month_start y 0 (omega arith)

next_year : (y : ℕ) → days_before_year y + days_of_months (is_leap y) 12 ≡ days_before_year (y + 1)
next_year y = let a = years_follow y in let b = months_make_the_year y in omega (arith, a, b)

-- a day of a year by the parts of its date
parts_in_year : (y c : ℕ) → days_before_year y ≤ c → c < days_before_year (y + 1) →
    c ≡ days_before_year y + days_of_months (is_leap y) ((date_of_count c).month - 1) + ((date_of_count c).day - 1)
unfolding day_count date_of_count
parts_in_year y c low high =
    sym (count_of_its_date c)
    ∙ ap (λ z. days_before_year z + days_of_months (is_leap z) ((date_of_count c).month - 1) + ((date_of_count c).day - 1)) (year_is y c low high)

is_zero : (a : ℕ) → a ≡ 0 → (a == 0) ≡ true
is_zero a e = ap (λ x. x == 0) e

zero_multiple : (n : ℕ) → (0 % n == 0) ≡ true
zero_multiple n = is_zero (0 % n) (zero-mod n)

back_one : (n k : ℕ) → k % n ≡ 0 → ((k + 1 - 1) % n == 0) ≡ true
back_one n k e = let back : k + 1 - 1 ≡ k = omega arith in is_zero ((k + 1 - 1) % n) (ap (λ x. x % n) back ∙ e)

-- ---- months

abbrev pub month_test : ℕ → Date → Bool
month_test n d = (d.day == 1) && ((d.month - 1) % n == 0)

months_divide : (y n : ℕ) → DividesCounts (λ c. month_test n (date_of_count c)) (λ k. days_before_year y + days_of_months (is_leap y) k) n 12
unfolding date
months_divide y n = record {
  grows = λ a b less upto. omega (arith, months_increase (is_leap y) a b less);
  hits = λ k below multiple. ap (month_test n) (month_start y k below) ∙ back_one n k multiple;
  only = λ c low high holds.
      let none = no_month (is_leap y) in let next = next_year y in
      let d : Date = date_of_count c in
      let both = and_parts _ _ holds in
      let first = eqb-true d.day 1 both.0 in
      let has = count_has_date c in
      let upto = has.month_high in
      let from = has.month_low in
      let is = parts_in_year y c (omega (arith, low, none)) (omega (arith, high, next)) in
      (d.month - 1, omega (arith, upto, from), omega (arith, is, first), eqb-true ((d.month - 1) % n) 0 both.1);
}

months_end : (y n : ℕ) → month_test n (date_of_count (days_before_year y + days_of_months (is_leap y) 12)) ≡ true
unfolding date
months_end y n = ap (λ c. month_test n (date_of_count c)) (next_year y) ∙ ap (month_test n) (year_start (y + 1)) ∙ zero_multiple n

-- ---- quarters

abbrev pub quarter_test : ℕ → Date → Bool
quarter_test n d = ((d.day == 1) && ((d.month - 1) % 3 == 0)) && ((d.month - 1) / 3 % n == 0)

quarters_divide : (y n : ℕ) → DividesCounts (λ c. quarter_test n (date_of_count c)) (λ k. days_before_year y + days_of_months (is_leap y) (3 * k)) n 4
unfolding date
quarters_divide y n = record {
  grows = λ a b less upto. omega (arith, months_increase (is_leap y) (3 * a) (3 * b) (omega (arith, less)));
  hits = λ k below multiple.
      let third : (3 * k + 1 - 1) % 3 ≡ 0 = omega arith in
      let number : (3 * k + 1 - 1) / 3 ≡ k = omega arith in
      ap (quarter_test n) (month_start y (3 * k) (omega (arith, below)))
      ∙ and_from _ _ (is_zero ((3 * k + 1 - 1) % 3) third) (is_zero ((3 * k + 1 - 1) / 3 % n) (ap (λ x. x % n) number ∙ multiple));
  only = λ c low high holds.
      let none = no_month (is_leap y) in let next = next_year y in
      let d : Date = date_of_count c in
      let both = and_parts _ _ holds in
      let front = and_parts _ _ both.0 in
      let first = eqb-true d.day 1 front.0 in
      let third = eqb-true ((d.month - 1) % 3) 0 front.1 in
      let has = count_has_date c in
      let upto = has.month_high in
      let from = has.month_low in
      let is = parts_in_year y c (omega (arith, low, none)) (omega (arith, high, next)) in
      let k : ℕ = (d.month - 1) / 3 in
      let three : d.month - 1 ≡ 3 * k = omega (arith, third) in
      let before : days_of_months (is_leap y) (d.month - 1) ≡ days_of_months (is_leap y) (3 * k) = ap (days_of_months (is_leap y)) three in
      (k, omega (arith, upto, from), omega (arith, is, first, before), eqb-true (k % n) 0 both.1);
}

quarters_end : (y n : ℕ) → quarter_test n (date_of_count (days_before_year y + days_of_months (is_leap y) 12)) ≡ true
unfolding date
quarters_end y n = ap (λ c. quarter_test n (date_of_count c)) (next_year y) ∙ ap (quarter_test n) (year_start (y + 1)) ∙ zero_multiple n

-- ---- years

abbrev pub year_test : ℕ → Date → Bool
year_test n d = ((d.day == 1) && (d.month - 1 == 0)) && (d.year % n == 0)

parts_of_count : (c : ℕ) → c ≡ days_before_year (date_of_count c).year
    + days_of_months (is_leap (date_of_count c).year) ((date_of_count c).month - 1) + ((date_of_count c).day - 1)
unfolding day_count
parts_of_count c = sym (count_of_its_date c)

some_year : (y : ℕ) → 1 ≤ days_of_year y
some_year y = grind (arith, nat_tests)

years_increase : (a b : ℕ) → a < b → days_before_year a < days_before_year b
years_increase a b h = let g = years_grow (a + 1) b (omega (arith, h)) in let f = years_follow a in let s = some_year a in omega (arith, g, f, s)

year_below : (a b : ℕ) → days_before_year a < days_before_year b → a < b
year_below a b h = elim (cases_lt a b) as (λ w. a < b) [ inl lt ↦ lt | inr ge ↦ absurd (omega (arith, h, years_grow b a ge)) ]

years_divide : (n : ℕ) → DividesCounts (λ c. year_test n (date_of_count c)) days_before_year n 10000
unfolding date
years_divide n = record {
  grows = λ a b less upto. omega (arith, years_increase a b less);
  hits = λ k below multiple. ap (year_test n) (year_start k) ∙ is_zero (k % n) multiple;
  only = λ c low high holds.
      let d : Date = date_of_count c in
      let both = and_parts _ _ holds in
      let front = and_parts _ _ both.0 in
      let first = eqb-true d.day 1 front.0 in
      let month = eqb-true (d.month - 1) 0 front.1 in
      let is = parts_of_count c in
      let before : days_of_months (is_leap d.year) (d.month - 1) ≡ 0 = ap (days_of_months (is_leap d.year)) month ∙ no_month (is_leap d.year) in
      let place : c ≡ days_before_year d.year = omega (arith, is, first, before) in
      (d.year, year_below d.year 10000 (omega (arith, high, place)), place, eqb-true (d.year % n) 0 both.1);
}

-- ---- days

abbrev pub day_test : ℕ → Date → Bool
day_test n d = (d.day - 1) % n == 0

days_divide : (y m n : ℕ) → m < 12 → DividesCounts (λ c. day_test n (date_of_count c))
    (λ k. days_before_year y + days_of_months (is_leap y) m + k) n (days_of_month (is_leap y) (m + 1))
unfolding date
days_divide y m n inside = record {
  grows = λ a b less upto. omega (arith, less);
  hits = λ k below multiple. ap (day_test n) (date_in_month y m k inside below) ∙ back_one n k multiple;
  only = λ c low high holds.
      let start : ℕ = days_before_year y + days_of_months (is_leap y) m in
      let k : ℕ = c - start in
      let is : c ≡ start + k = omega (arith, low) in
      let below : k < days_of_month (is_leap y) (m + 1) = omega (arith, low, high) in
      let here = ap date_of_count is ∙ date_in_month y m k inside below in
      let back : k + 1 - 1 ≡ k = omega arith in
      let number = ap (λ (d : Date). d.day - 1) here ∙ back in
      (k, below, is, ap (λ x. x % n) (sym number) ∙ eqb-true (((date_of_count c).day - 1) % n) 0 holds);
}

-- the first of a month, of the next year past December
days_end : (y m n : ℕ) → m < 12 → day_test n (date_of_count (days_before_year y + days_of_months (is_leap y) m + days_of_month (is_leap y) (m + 1))) ≡ true
unfolding date
days_end y m n inside =
    let leap : Bool = is_leap y in
    let follow = months_follow leap (m + 1) (omega arith) in
    let back : m + 1 - 1 ≡ m = omega arith in
    let before : days_of_months leap (m + 1 - 1) ≡ days_of_months leap m = ap (days_of_months leap) back in
    elim (cases_lt (m + 1) 12) as (λ w. day_test n (date_of_count (days_before_year y + days_of_months leap m + days_of_month leap (m + 1))) ≡ true) [
      | inl lt ↦
          let next : days_before_year y + days_of_months leap m + days_of_month leap (m + 1) ≡ days_before_year y + days_of_months leap (m + 1) =
          omega (arith, follow, before) in
          ap (λ c. day_test n (date_of_count c)) next ∙ ap (day_test n) (month_start y (m + 1) lt) ∙ zero_multiple n
      | inr ge ↦
          let last : m + 1 ≡ 12 = omega (arith, ge, inside) in
          let all : days_of_months leap (m + 1) ≡ days_of_months leap 12 = ap (days_of_months leap) last in
          let year = next_year y in
          let next : days_before_year y + days_of_months leap m + days_of_month leap (m + 1) ≡ days_before_year (y + 1) =
          omega (arith, follow, before, all, year) in
          ap (λ c. day_test n (date_of_count c)) next ∙ ap (day_test n) (year_start (y + 1)) ∙ zero_multiple n
    ]

-- ---- the same among days counted from 1970

pub days_divide_month : (y m n : ℕ) → m < 12 →
    Divides (λ day. day_test n (date_of_count (count_of_day day)))
    (λ k. day_at (days_before_year y + days_of_months (is_leap y) m + k)) n (days_of_month (is_leap y) (m + 1))
days_divide_month y m n h = to_days (λ c. day_test n (date_of_count c))
    (λ k. days_before_year y + days_of_months (is_leap y) m + k) n (days_of_month (is_leap y) (m + 1)) (days_divide y m n h)

pub days_end_month : (y m n : ℕ) → m < 12 →
    day_test n (date_of_count (count_of_day (day_at (days_before_year y + days_of_months (is_leap y) m + days_of_month (is_leap y) (m + 1))))) ≡ true
days_end_month y m n h = ap (λ c. day_test n (date_of_count c)) (count_back _) ∙ days_end y m n h

pub months_divide_year : (y n : ℕ) →
    Divides (λ day. month_test n (date_of_count (count_of_day day))) (λ k. day_at (days_before_year y + days_of_months (is_leap y) k)) n 12
months_divide_year y n = to_days (λ c. month_test n (date_of_count c)) (λ k. days_before_year y + days_of_months (is_leap y) k) n 12 (months_divide y n)

pub months_end_year : (y n : ℕ) → month_test n (date_of_count (count_of_day (day_at (days_before_year y + days_of_months (is_leap y) 12)))) ≡ true
months_end_year y n = ap (λ c. month_test n (date_of_count c)) (count_back _) ∙ months_end y n

pub quarters_divide_year : (y n : ℕ) →
    Divides (λ day. quarter_test n (date_of_count (count_of_day day))) (λ k. day_at (days_before_year y + days_of_months (is_leap y) (3 * k))) n 4
quarters_divide_year y n =
    to_days (λ c. quarter_test n (date_of_count c)) (λ k. days_before_year y + days_of_months (is_leap y) (3 * k)) n 4 (quarters_divide y n)

pub quarters_end_year : (y n : ℕ) → quarter_test n (date_of_count (count_of_day (day_at (days_before_year y + days_of_months (is_leap y) 12)))) ≡ true
quarters_end_year y n = ap (λ c. quarter_test n (date_of_count c)) (count_back _) ∙ quarters_end y n

pub years_divide_days : (n : ℕ) → Divides (λ day. year_test n (date_of_count (count_of_day day))) (λ k. day_at (days_before_year k)) n 10000
years_divide_days n = to_days (λ c. year_test n (date_of_count c)) days_before_year n 10000 (years_divide n)

-- where a day stands by the parts of its date
pub record StandsIn (day : ℤ) (d : Date) : Type 0 where
  pub has : HasParts d
  pub from_year : day ≡ day_at (days_before_year d.year + days_of_months (is_leap d.year) (d.month - 1) + (d.day - 1))
  pub in_month : day <ℤ day_at (days_before_year d.year + days_of_months (is_leap d.year) (d.month - 1 + 1))
  pub in_year : day <ℤ day_at (days_before_year (d.year + 1))
  pub month_below : d.month - 1 < 12
  pub day_below : d.day - 1 < days_of_month (is_leap d.year) (d.month - 1 + 1)

pub stands : (day : ℤ) → day_at 0 ≤ℤ day → StandsIn day (date_of_count (count_of_day day))
stands day low =
    let c : ℕ = count_of_day day in
    let d : Date = date_of_count c in
    let leap : Bool = is_leap d.year in
    let has = count_has_date c in
    let is = parts_of_count c in
    let back = day_back day 0 low in
    let from = has.month_low in let upto = has.month_high in let first = has.day_low in let last = has.day_high in
    let again : d.month - 1 + 1 ≡ d.month = omega (arith, from) in
    let months : days_of_months leap (d.month - 1 + 1) ≡ days_of_months leap d.month = ap (days_of_months leap) again in
    let long : days_of_month leap (d.month - 1 + 1) ≡ days_of_month leap d.month = ap (days_of_month leap) again in
    let follow = months_follow leap d.month from in
    let whole = months_grow leap d.month 12 upto in
    let next = next_year d.year in
    record {
      has = has;
      from_year = sym back ∙ ap day_at is;
      in_month = omega (arith, ints, back, is, first, last, months, follow);
      in_year = omega (arith, ints, back, is, first, last, follow, whole, next);
      month_below = omega (arith, from, upto);
      day_below = omega (arith, first, last, long);
    }
