-- Days and dates are counted from each other.
use Rattle.std.proofs.Common.{◌≡◌, ℕ, zero, suc, ◌+◌, ◌-◌, ◌*◌, ◌/◌, ◌<◌, ◌≤◌, Bool, true, false, cond, nat_le, refl, sym, ap, ◌∙◌, arith}
use Rattle.std.proofs.Common.{ℤ, pos, neg_ℤ, ◌+ℤ◌, ◌-ℤ◌, ◌≤ℤ◌, unsigned_abs, inl, inr}
use Rattle.std.proofs.lemmas.Bool.{leb-true, leb-false, le-leb, lt-leb, true≢false, cases_lt, and_parts, and_from}
use Rattle.std.proofs.lemmas.Bool.Decides.{nat_tests}
use Rattle.std.proofs.lemmas.Int.{ints}
use Rattle.time_calc.specs.declared.calendar.Date.{Date}
use Rattle.time_calc.specs.Calendar.{is_leap, days_of_month, days_before_year, days_of_months, is_date, day_count, days_before_1970}
use Rattle.time_calc.specs.Calendar.{greatest_passing, year_of_count, month_of_count, date_in_year, date_of_count, date_of_day}
use Rattle.time_calc.specs.CalendarLaws.{YearsFollow, MonthsMakeTheYear, DateOfItsDay, DaysHaveDates, DayOfItsDate}

-- ---- the greatest number that passes

-- it passes, where 0 does
greatest_passes : (p : ℕ → Bool) (n : ℕ) → p 0 ≡ true → p (greatest_passing p n) ≡ true
unfolding greatest_passing
greatest_passes p zero h = h
greatest_passes p (suc n) h =
    elim (p (suc n)) as (λ b. p (suc n) ≡ b → p (cond b (suc n) (greatest_passing p n)) ≡ true)
    [ true ↦ λ e. e | false ↦ λ e. greatest_passes p n h ] refl

greatest_bounded : (p : ℕ → Bool) (n : ℕ) → greatest_passing p n ≤ n
unfolding greatest_passing
greatest_bounded p zero = omega arith
greatest_bounded p (suc n) =
    elim (p (suc n)) as (λ b. cond b (suc n) (greatest_passing p n) ≤ suc n)
    [ true ↦ omega arith | false ↦ omega (arith, greatest_bounded p n) ]

-- no number above it passes, up to the bound
greatest_above : (p : ℕ → Bool) (n k : ℕ) → greatest_passing p n < k → k ≤ n → p k ≡ false
unfolding greatest_passing
greatest_above p zero k above below = absurd (omega (arith, above, below))
greatest_above p (suc n) k above below =
    elim (p (suc n)) as (λ b. p (suc n) ≡ b → cond b (suc n) (greatest_passing p n) < k → p k ≡ false) [
      | true ↦ λ e over. absurd (omega (arith, over, below))
      | false ↦ λ e over.
          elim (cases_lt k (suc n)) as (λ w. p k ≡ false) [
            | inl lt ↦ greatest_above p n k over (omega arith)
            | inr ge ↦ let same : k ≡ suc n = omega arith in ap p same ∙ e
          ]
    ] refl above

-- a number that passes, above which none does up to the bound, is the greatest
greatest_is : (p : ℕ → Bool) (n g : ℕ) → p 0 ≡ true → p g ≡ true → g ≤ n → ((k : ℕ) → g < k → p k ≡ false) → greatest_passing p n ≡ g
greatest_is p n g first passes bounded above =
    let top : p (greatest_passing p n) ≡ true = greatest_passes p n first in
    elim (cases_lt g (greatest_passing p n)) as (λ w. greatest_passing p n ≡ g) [
      | inl lt ↦ absurd (true≢false (sym top ∙ above (greatest_passing p n) lt))
      | inr ge ↦ elim (cases_lt (greatest_passing p n) g) as (λ w. greatest_passing p n ≡ g) [
        | inl lt ↦ absurd (true≢false (sym passes ∙ greatest_above p n g lt bounded))
        | inr le ↦ omega arith
      ]
    ]

-- ---- years

pub years_follow : YearsFollow
unfolding days_before_year
years_follow year = grind (arith, nat_tests)

pub years_grow : (a b : ℕ) → a ≤ b → days_before_year a ≤ days_before_year b
unfolding days_before_year
years_grow a b h = omega (arith, h)

pub years_have_365 : (year : ℕ) → 365 * year ≤ days_before_year year
unfolding days_before_year
years_have_365 year = omega arith

-- ---- months

pub months_make_the_year : MonthsMakeTheYear
unfolding days_of_months
months_make_the_year year = elim (is_leap year) as (λ b. days_of_months b 12 ≡ cond b 366 365) [ true ↦ refl | false ↦ refl ]

pub months_follow : (leap : Bool) (month : ℕ) → 1 ≤ month → days_of_months leap month ≡ days_of_months leap (month - 1) + days_of_month leap month
unfolding days_of_months
months_follow leap zero h = absurd (omega (arith, h))
months_follow leap (suc month) h =
    let back : month ≡ suc month - 1 = omega arith in ap (λ k. days_of_months leap k + days_of_month leap (suc month)) back

pub months_grow : (leap : Bool) (a b : ℕ) → a ≤ b → days_of_months leap a ≤ days_of_months leap b
unfolding days_of_months
months_grow leap a zero h = let same : a ≡ 0 = omega arith in omega (arith, ap (days_of_months leap) same)
months_grow leap a (suc b) h =
    elim (cases_lt b a) as (λ w. days_of_months leap a ≤ days_of_months leap b + days_of_month leap (suc b)) [
      | inl lt ↦ let same : a ≡ suc b = omega arith in omega (arith, ap (days_of_months leap) same)
      | inr ge ↦ omega (arith, months_grow leap a b ge)
    ]

-- ---- a day in its year

no_months : (leap : Bool) (count : ℕ) → nat_le (days_of_months leap 0) count ≡ true
unfolding days_of_months
no_months leap count = le-leb 0 count (omega arith)

pub month_starts : (leap : Bool) (count : ℕ) → days_of_months leap (month_of_count leap count - 1) ≤ count
month_starts leap count = leb-true _ _ (greatest_passes (λ month. nat_le (days_of_months leap (month - 1)) count) 12 (no_months leap count))

pub month_in_range : (leap : Bool) (count : ℕ) → (1 ≤ month_of_count leap count) × (month_of_count leap count ≤ 12)
month_in_range leap count = (
  elim (cases_lt (month_of_count leap count) 1) as (λ w. 1 ≤ month_of_count leap count) [
    | inl lt ↦ absurd (true≢false (sym (no_months leap count) ∙ greatest_above (λ month. nat_le (days_of_months leap (month - 1)) count) 12 1 lt (omega arith)))
    | inr ge ↦ ge
  ],
  greatest_bounded (λ month. nat_le (days_of_months leap (month - 1)) count) 12,
)

pub month_ends : (leap : Bool) (count : ℕ) → count < days_of_months leap 12 → count < days_of_months leap (month_of_count leap count)
month_ends leap count h =
    elim (cases_lt (month_of_count leap count) 12) as (λ w. count < days_of_months leap (month_of_count leap count)) [
      | inl lt ↦
          let after = leb-false _ _ (greatest_above (λ month. nat_le (days_of_months leap (month - 1)) count)
          12 (month_of_count leap count + 1) (omega arith) (omega (arith, lt))) in
          let same : month_of_count leap count + 1 - 1 ≡ month_of_count leap count = omega arith in
          omega (arith, after, ap (days_of_months leap) same)
      | inr ge ↦
          let same : month_of_count leap count ≡ 12 = omega (arith, ge, (month_in_range leap count).1) in
          omega (arith, h, ap (days_of_months leap) same)
    ]

pub month_is : (leap : Bool) (m count : ℕ) → m ≤ 12 → days_of_months leap (m - 1) ≤ count → count < days_of_months leap m → month_of_count leap count ≡ m
month_is leap m count high starts ends =
    greatest_is (λ month. nat_le (days_of_months leap (month - 1)) count) 12 m
    (no_months leap count) (le-leb _ _ starts) high
    (λ k over. lt-leb _ _ (omega (arith, ends, months_grow leap m (k - 1) (omega (arith, over)))))

-- ---- a day in its year from year 0

no_years : (count : ℕ) → nat_le (days_before_year 0) count ≡ true
unfolding days_before_year
no_years count = le-leb 0 count (omega arith)

pub year_starts : (count : ℕ) → days_before_year (year_of_count count) ≤ count
year_starts count = leb-true _ _ (greatest_passes (λ year. nat_le (days_before_year year) count) (count / 365) (no_years count))

pub year_ends : (count : ℕ) → count < days_before_year (year_of_count count + 1)
year_ends count =
    elim (cases_lt (year_of_count count) (count / 365)) as (λ w. count < days_before_year (year_of_count count + 1)) [
      | inl lt ↦ leb-false _ _
          (greatest_above (λ year. nat_le (days_before_year year) count) (count / 365) (year_of_count count + 1) (omega arith) (omega (arith, lt)))
      | inr ge ↦ omega (arith, ge, years_have_365 (year_of_count count + 1))
    ]

pub year_is : (y count : ℕ) → days_before_year y ≤ count → count < days_before_year (y + 1) → year_of_count count ≡ y
year_is y count starts ends =
    greatest_is (λ year. nat_le (days_before_year year) count) (count / 365) y
    (no_years count) (le-leb _ _ starts) (omega (arith, starts, years_have_365 y))
    (λ k over. lt-leb _ _ (omega (arith, ends, years_grow (y + 1) k (omega (arith, over)))))

-- ---- dates

-- what the calendar's dates are
pub record HasParts (d : Date) : Type 0 where
  pub month_low : 1 ≤ d.month
  pub month_high : d.month ≤ 12
  pub day_low : 1 ≤ d.day
  pub day_high : d.day ≤ days_of_month (is_leap d.year) d.month

pub parts_of_date : (d : Date) → is_date d ≡ true → HasParts d
parts_of_date d h =
    let first = and_parts _ _ h in let second = and_parts _ _ first.0 in let third = and_parts _ _ second.0 in
    record { month_low = leb-true _ _ third.0; month_high = leb-true _ _ third.1; day_low = leb-true _ _ second.1; day_high = leb-true _ _ first.1 }

pub date_of_parts : (d : Date) → HasParts d → is_date d ≡ true
date_of_parts d h = and_from _ _ (and_from _ _ (and_from _ _ (le-leb _ _ h.month_low) (le-leb _ _ h.month_high)) (le-leb _ _ h.day_low)) (le-leb _ _ h.day_high)

-- the days of a year before a day in it
rest_of : ℕ → ℕ
rest_of count = count - days_before_year (year_of_count count)

rest_in_year : (count : ℕ) → rest_of count < days_of_months (is_leap (year_of_count count)) 12
unfolding rest_of
rest_in_year count =
    omega (arith, year_starts count, year_ends count, years_follow (year_of_count count), months_make_the_year (year_of_count count))

pub count_has_date : (count : ℕ) → HasParts (date_of_count count)
unfolding date_of_count rest_of
count_has_date count =
    let year = year_of_count count in let leap = is_leap year in
    let range = month_in_range leap (rest_of count) in
    record {
      month_low = range.0;
      month_high = range.1;
      day_low = omega arith;
      day_high = omega (
        arith,
        month_ends leap (rest_of count) (rest_in_year count),
        month_starts leap (rest_of count),
        months_follow leap (month_of_count leap (rest_of count)) range.0,
      );
    }

pub count_of_its_date : (count : ℕ) → day_count (date_of_count count) ≡ count
unfolding date_of_count day_count rest_of
count_of_its_date count =
    let year = year_of_count count in let leap = is_leap year in
    omega (arith, year_starts count, month_starts leap (rest_of count))

-- a date is the date of its count
pub date_of_its_count : (d : Date) → HasParts d → date_of_count (day_count d) ≡ d
unfolding date_of_count day_count
date_of_its_count d h =
    let leap : Bool = is_leap d.year in
    let month = months_follow leap d.month h.month_low in
    let high = h.day_high in
    let low = h.day_low in
    let rest : ℕ = days_of_months leap (d.month - 1) + (d.day - 1) in
    let count : ℕ = days_before_year d.year + days_of_months leap (d.month - 1) + (d.day - 1) in
    let inside : rest < days_of_months leap d.month = omega (arith, month, high, low) in
    let year : year_of_count count ≡ d.year =
    year_is d.year count (omega arith)
    (omega (arith, inside, months_grow leap d.month 12 h.month_high, years_follow d.year, months_make_the_year d.year)) in
    let left : count - days_before_year d.year ≡ rest = omega arith in
    let in_month = month_is leap d.month rest h.month_high (omega arith) inside in
    let day : rest - days_of_months leap (d.month - 1) + 1 ≡ d.day = omega (arith, low) in
    let in_year : date_of_count count ≡ date_in_year d.year (count - days_before_year d.year) = ap (λ y. date_in_year y (count - days_before_year y)) year in
    let by_month : ℕ → Date = λ m. record { year = d.year; month = m; day = rest - days_of_months leap (m - 1) + 1 } in
    let by_day : ℕ → Date = λ k. record { year = d.year; month = d.month; day = k } in
    in_year ∙ ap (date_in_year d.year) left ∙ ap by_month in_month ∙ ap by_day day

-- ---- days counted from 1970

back_and_forth : (n k : ℕ) → unsigned_abs (pos n -ℤ pos k +ℤ pos k) ≡ n
back_and_forth n k = let e : pos n -ℤ pos k +ℤ pos k ≡ pos n = omega (arith, ints) in ap unsigned_abs e

forth_and_back : (day : ℤ) (k : ℕ) → neg_ℤ (pos k) ≤ℤ day → pos (unsigned_abs (day +ℤ pos k)) -ℤ pos k ≡ day
forth_and_back day k h = omega (arith, ints, h)

pub date_of_its_day : DateOfItsDay
date_of_its_day d h = ap date_of_count (back_and_forth (day_count d) days_before_1970) ∙ date_of_its_count d (parts_of_date d h)

pub days_have_dates : DaysHaveDates
days_have_dates day h = date_of_parts (date_of_day day) (count_has_date (unsigned_abs (day +ℤ pos days_before_1970)))

pub day_of_its_date : DayOfItsDate
day_of_its_date day h =
    ap (λ n. pos n -ℤ pos days_before_1970) (count_of_its_date (unsigned_abs (day +ℤ pos days_before_1970))) ∙ forth_and_back day days_before_1970 h
