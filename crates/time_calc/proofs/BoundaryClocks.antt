-- Boundaries of milliseconds, seconds, minutes and hours.
use Rattle.std.proofs.Common.{◌≡◌, ℕ, ◌+◌, ◌-◌, ◌*◌, ◌/◌, ◌%◌, ◌<◌, ◌≤◌, ◌==◌, ◌&&◌, min, Bool, true, refl, sym, ap, ◌∙◌, subst, arith, ℤ}
use Rattle.std.proofs.Common.{pos, ◌+ℤ◌, ◌*ℤ◌, unsigned_abs}
use Rattle.std.specs.Int.{int_div_euclid, int_rem_euclid}
use Rattle.std.proofs.Math.Nat.{zero-mod}
use Rattle.std.proofs.lemmas.Bool.{and_parts, and_from, eqb-true}
use Rattle.std.proofs.lemmas.Int.{ints}
use Rattle.case_table.specs.declared.unit.Unit.TheVariants.{Second, Minute, Hour}
use Rattle.time_calc.specs.declared.boundaries.Side.TheVariants.{Before, After}
use Rattle.time_calc.specs.Instants.{day_of_instant, time_of_instant}
use Rattle.time_calc.specs.Boundaries.{is_boundary}
use Rattle.time_calc.specs.NextBoundary.{boundary_at}
use Rattle.time_calc.proofs.InstantLemmas.{day_and_rest, rest_below, one_day}
use Rattle.time_calc.proofs.BoundaryFrame.{IsLastOf, IsFirstOf, Divides, last_in, first_in}

-- the milliseconds of an instant since midnight
unfoldable pub rest_of_day : ℤ → ℕ
rest_of_day i = unsigned_abs (int_rem_euclid i (pos 86400000))

-- an instant so many milliseconds after the start of a day
abbrev moment : ℤ → ℕ → ℤ
moment q m = q *ℤ pos 86400000 +ℤ pos m

pub moment_of : (i : ℤ) → moment (day_of_instant i) (rest_of_day i) ≡ i
unfolding day_of_instant rest_of_day
moment_of i = day_and_rest i

pub rest_small : (i : ℤ) → rest_of_day i < 86400000
unfolding rest_of_day
rest_small i = rest_below i

pub day_and_rest_of : (q : ℤ) (m : ℕ) → m < 86400000 → (day_of_instant (moment q m) ≡ q) × (rest_of_day (moment q m) ≡ m)
unfolding day_of_instant rest_of_day
day_and_rest_of q m h =
    one_day q (int_div_euclid (moment q m) (pos 86400000)) m
    (unsigned_abs (int_rem_euclid (moment q m) (pos 86400000))) h (rest_below (moment q m)) (day_and_rest (moment q m))

is_zero : (a : ℕ) → a ≡ 0 → (a == 0) ≡ true
is_zero a e = ap (λ x. x == 0) e

-- ---- seconds

abbrev second_test : ℕ → ℕ → Bool
second_test n m = (m % 1000 == 0) && (m / 1000 % 60 % n == 0)

second_boundary : (n : ℕ) (i : ℤ) → is_boundary Second n i ≡ second_test n (rest_of_day i)
unfolding is_boundary time_of_instant rest_of_day
second_boundary n i = refl

-- the milliseconds at which a second begins: t counts the periods before it, and k the seconds in its period
second_holds : (n t k m : ℕ) → t < 1440 → k < 60 → k % n ≡ 0 → m ≡ 60000 * t + 1000 * k → second_test n m ≡ true
second_holds n t k m inside h multiple e =
    let number : m / 1000 % 60 ≡ k = omega (arith, e, h, inside) in
    and_from _ _ (is_zero (m % 1000) (omega (arith, e, h, inside))) (is_zero (m / 1000 % 60 % n) (ap (λ x. x % n) number ∙ multiple))

second_found : (n t m : ℕ) → t < 1440 → 60000 * t ≤ m → m < 60000 * t + 60000
    → second_test n m ≡ true → (k : ℕ) × (k < 60) × (m ≡ 60000 * t + 1000 * k) × (k % n ≡ 0)
second_found n t m inside low high e =
    let both = and_parts _ _ e in
    let multiple = eqb-true (m / 1000 % 60 % n) 0 both.1 in
    let first = eqb-true (m % 1000) 0 both.0 in
    (m / 1000 % 60, omega (arith, inside, low, high), omega (arith, inside, low, high, first), multiple)

abbrev second_at : ℤ → ℕ → ℕ → ℤ
second_at q t k = moment q (60000 * t + 1000 * k)

seconds_divide : (q : ℤ) (t n : ℕ) → t < 1440 → Divides (is_boundary Second n) (second_at q t) n 60
seconds_divide q t n inside = record {
  grows = λ a b less upto. omega (arith, ints, less, upto);
  hits = λ k below multiple.
      let here = day_and_rest_of q (60000 * t + 1000 * k) (omega (arith, inside, below)) in
      second_boundary n (second_at q t k) ∙ second_holds n t k (rest_of_day (second_at q t k)) inside below multiple here.1;
  only = λ j low high holds.
      let is = moment_of j in let small = rest_small j in
      let day : day_of_instant j ≡ q = omega (arith, ints, is, small, low, high, inside) in
      let from : 60000 * t ≤ rest_of_day j = omega (arith, ints, is, day, low) in
      let to : rest_of_day j < 60000 * t + 60000 = omega (arith, ints, is, day, high) in
      let (k, below, place, multiple) = second_found n t (rest_of_day j) inside from to (sym (second_boundary n j) ∙ holds) in
      (k, below, omega (arith, ints, is, day, place), multiple);
}

-- the period after one begins with a boundary
seconds_end : (q : ℤ) (t n : ℕ) → is_boundary Second n (second_at q t 60) ≡ true
seconds_end q t n =
    let j : ℤ = second_at q t 60 in
    let is = moment_of j in let small = rest_small j in
    let none : rest_of_day j % 60000 ≡ 0 = omega (arith, ints, is, small) in
    let whole : rest_of_day j ≡ 60000 * (rest_of_day j / 60000) + 1000 * 0 = omega (arith, none) in
    second_boundary n j ∙ second_holds n (rest_of_day j / 60000) 0 (rest_of_day j) (omega (arith, small)) (omega arith) (zero-mod n) whole

pub last_second : (n : ℕ) (i : ℤ) → 0 < n → IsLastOf (is_boundary Second n) i (boundary_at Before Second n i)
unfolding rest_of_day
last_second n i some =
    let q : ℤ = day_of_instant i in let m : ℕ = rest_of_day i in
    let is = moment_of i in let small = rest_small i in
    let t : ℕ = m / 60000 in let f : ℕ = m / 1000 % 60 in
    let found = last_in (is_boundary Second n) (second_at q t) n 60 (seconds_divide q t n (omega (arith, small))) some f
    (omega (arith, small)) i (omega (arith, ints, is)) (omega (arith, ints, is)) in
    let place : second_at q t (f - f % n) ≡ boundary_at Before Second n i = omega (arith, ints) in
    subst (IsLastOf (is_boundary Second n) i) place found

pub first_second : (n : ℕ) (i limit : ℤ) → 0 < n → IsFirstOf (is_boundary Second n) limit i (boundary_at After Second n i)
unfolding rest_of_day
first_second n i limit some =
    let q : ℤ = day_of_instant i in let m : ℕ = rest_of_day i in
    let is = moment_of i in let small = rest_small i in
    let t : ℕ = m / 60000 in let f : ℕ = m / 1000 % 60 in
    let found = first_in (is_boundary Second n) (second_at q t) n 60 (seconds_divide q t n (omega (arith, small))) some limit (λ _. seconds_end q t n)
    f (omega (arith, small)) i (omega (arith, ints, is)) (omega (arith, ints, is)) in
    let place : second_at q t (min 60 (f - f % n + n)) ≡ boundary_at After Second n i = omega (arith, ints) in
    subst (IsFirstOf (is_boundary Second n) limit i) place found

-- ---- minutes

abbrev minute_test : ℕ → ℕ → Bool
minute_test n m = ((m % 1000 == 0) && (m / 1000 % 60 == 0)) && (m / 60000 % 60 % n == 0)

minute_boundary : (n : ℕ) (i : ℤ) → is_boundary Minute n i ≡ minute_test n (rest_of_day i)
unfolding is_boundary time_of_instant rest_of_day
minute_boundary n i = refl

-- the milliseconds at which a minute begins: t counts the periods before it, and k the minutes in its period
minute_holds : (n t k m : ℕ) → t < 24 → k < 60 → k % n ≡ 0 → m ≡ 3600000 * t + 60000 * k → minute_test n m ≡ true
minute_holds n t k m inside h multiple e =
    let number : m / 60000 % 60 ≡ k = omega (arith, e, h, inside) in
    and_from _ _ (and_from _ _ (is_zero (m % 1000) (omega (arith, e, h, inside))) (is_zero (m / 1000 % 60) (omega (arith, e, h, inside))))
    (is_zero (m / 60000 % 60 % n) (ap (λ x. x % n) number ∙ multiple))

minute_found : (n t m : ℕ) → t < 24 → 3600000 * t ≤ m → m < 3600000 * t + 3600000
    → minute_test n m ≡ true → (k : ℕ) × (k < 60) × (m ≡ 3600000 * t + 60000 * k) × (k % n ≡ 0)
minute_found n t m inside low high e =
    let both = and_parts _ _ e in
    let multiple = eqb-true (m / 60000 % 60 % n) 0 both.1 in
    let front = and_parts _ _ both.0 in
    let first = eqb-true (m % 1000) 0 front.0 in
    let second = eqb-true (m / 1000 % 60) 0 front.1 in
    (m / 60000 % 60, omega (arith, inside, low, high), omega (arith, inside, low, high, first, second), multiple)

abbrev minute_at : ℤ → ℕ → ℕ → ℤ
minute_at q t k = moment q (3600000 * t + 60000 * k)

minutes_divide : (q : ℤ) (t n : ℕ) → t < 24 → Divides (is_boundary Minute n) (minute_at q t) n 60
minutes_divide q t n inside = record {
  grows = λ a b less upto. omega (arith, ints, less, upto);
  hits = λ k below multiple.
      let here = day_and_rest_of q (3600000 * t + 60000 * k) (omega (arith, inside, below)) in
      minute_boundary n (minute_at q t k) ∙ minute_holds n t k (rest_of_day (minute_at q t k)) inside below multiple here.1;
  only = λ j low high holds.
      let is = moment_of j in let small = rest_small j in
      let day : day_of_instant j ≡ q = omega (arith, ints, is, small, low, high, inside) in
      let from : 3600000 * t ≤ rest_of_day j = omega (arith, ints, is, day, low) in
      let to : rest_of_day j < 3600000 * t + 3600000 = omega (arith, ints, is, day, high) in
      let (k, below, place, multiple) = minute_found n t (rest_of_day j) inside from to (sym (minute_boundary n j) ∙ holds) in
      (k, below, omega (arith, ints, is, day, place), multiple);
}

-- the period after one begins with a boundary
minutes_end : (q : ℤ) (t n : ℕ) → is_boundary Minute n (minute_at q t 60) ≡ true
minutes_end q t n =
    let j : ℤ = minute_at q t 60 in
    let is = moment_of j in let small = rest_small j in
    let none : rest_of_day j % 3600000 ≡ 0 = omega (arith, ints, is, small) in
    let whole : rest_of_day j ≡ 3600000 * (rest_of_day j / 3600000) + 60000 * 0 = omega (arith, none) in
    minute_boundary n j ∙ minute_holds n (rest_of_day j / 3600000) 0 (rest_of_day j) (omega (arith, small)) (omega arith) (zero-mod n) whole

pub last_minute : (n : ℕ) (i : ℤ) → 0 < n → IsLastOf (is_boundary Minute n) i (boundary_at Before Minute n i)
unfolding rest_of_day
last_minute n i some =
    let q : ℤ = day_of_instant i in let m : ℕ = rest_of_day i in
    let is = moment_of i in let small = rest_small i in
    let t : ℕ = m / 3600000 in let f : ℕ = m / 60000 % 60 in
    let found = last_in (is_boundary Minute n) (minute_at q t) n 60 (minutes_divide q t n (omega (arith, small))) some f
    (omega (arith, small)) i (omega (arith, ints, is)) (omega (arith, ints, is)) in
    let place : minute_at q t (f - f % n) ≡ boundary_at Before Minute n i = omega (arith, ints) in
    subst (IsLastOf (is_boundary Minute n) i) place found

pub first_minute : (n : ℕ) (i limit : ℤ) → 0 < n → IsFirstOf (is_boundary Minute n) limit i (boundary_at After Minute n i)
unfolding rest_of_day
first_minute n i limit some =
    let q : ℤ = day_of_instant i in let m : ℕ = rest_of_day i in
    let is = moment_of i in let small = rest_small i in
    let t : ℕ = m / 3600000 in let f : ℕ = m / 60000 % 60 in
    let found = first_in (is_boundary Minute n) (minute_at q t) n 60 (minutes_divide q t n (omega (arith, small))) some limit (λ _. minutes_end q t n)
    f (omega (arith, small)) i (omega (arith, ints, is)) (omega (arith, ints, is)) in
    let place : minute_at q t (min 60 (f - f % n + n)) ≡ boundary_at After Minute n i = omega (arith, ints) in
    subst (IsFirstOf (is_boundary Minute n) limit i) place found

-- ---- hours

abbrev hour_test : ℕ → ℕ → Bool
hour_test n m = (((m % 1000 == 0) && (m / 1000 % 60 == 0)) && (m / 60000 % 60 == 0)) && (m / 3600000 % n == 0)

hour_boundary : (n : ℕ) (i : ℤ) → is_boundary Hour n i ≡ hour_test n (rest_of_day i)
unfolding is_boundary time_of_instant rest_of_day
hour_boundary n i = refl

-- the milliseconds at which a hour begins: t counts the periods before it, and k the hours in its period
hour_holds : (n t k m : ℕ) → t < 1 → k < 24 → k % n ≡ 0 → m ≡ 86400000 * t + 3600000 * k → hour_test n m ≡ true
hour_holds n t k m inside h multiple e =
    let number : m / 3600000 ≡ k = omega (arith, e, h, inside) in
    and_from _ _
    (and_from _ _ (and_from _ _ (is_zero (m % 1000) (omega (arith, e, h, inside))) (is_zero (m / 1000 % 60) (omega (arith, e, h, inside))))
    (is_zero (m / 60000 % 60) (omega (arith, e, h, inside)))) (is_zero (m / 3600000 % n) (ap (λ x. x % n) number ∙ multiple))

hour_found : (n t m : ℕ) → t < 1 → 86400000 * t ≤ m → m < 86400000 * t + 86400000
    → hour_test n m ≡ true → (k : ℕ) × (k < 24) × (m ≡ 86400000 * t + 3600000 * k) × (k % n ≡ 0)
hour_found n t m inside low high e =
    let both = and_parts _ _ e in
    let multiple = eqb-true (m / 3600000 % n) 0 both.1 in
    let front = and_parts _ _ both.0 in
    let before = and_parts _ _ front.0 in
    let first = eqb-true (m % 1000) 0 before.0 in
    let second = eqb-true (m / 1000 % 60) 0 before.1 in
    let third = eqb-true (m / 60000 % 60) 0 front.1 in
    (m / 3600000, omega (arith, inside, low, high), omega (arith, inside, low, high, first, second, third), multiple)

abbrev hour_at : ℤ → ℕ → ℕ → ℤ
hour_at q t k = moment q (86400000 * t + 3600000 * k)

hours_divide : (q : ℤ) (t n : ℕ) → t < 1 → Divides (is_boundary Hour n) (hour_at q t) n 24
hours_divide q t n inside = record {
  grows = λ a b less upto. omega (arith, ints, less, upto);
  hits = λ k below multiple.
      let here = day_and_rest_of q (86400000 * t + 3600000 * k) (omega (arith, inside, below)) in
      hour_boundary n (hour_at q t k) ∙ hour_holds n t k (rest_of_day (hour_at q t k)) inside below multiple here.1;
  only = λ j low high holds.
      let is = moment_of j in let small = rest_small j in
      let day : day_of_instant j ≡ q = omega (arith, ints, is, small, low, high, inside) in
      let from : 86400000 * t ≤ rest_of_day j = omega (arith, ints, is, day, low) in
      let to : rest_of_day j < 86400000 * t + 86400000 = omega (arith, ints, is, day, high) in
      let (k, below, place, multiple) = hour_found n t (rest_of_day j) inside from to (sym (hour_boundary n j) ∙ holds) in
      (k, below, omega (arith, ints, is, day, place), multiple);
}

-- the period after one begins with a boundary
hours_end : (q : ℤ) (t n : ℕ) → is_boundary Hour n (hour_at q t 24) ≡ true
hours_end q t n =
    let j : ℤ = hour_at q t 24 in
    let is = moment_of j in let small = rest_small j in
    let none : rest_of_day j % 86400000 ≡ 0 = omega (arith, ints, is, small) in
    let whole : rest_of_day j ≡ 86400000 * (rest_of_day j / 86400000) + 3600000 * 0 = omega (arith, none) in
    hour_boundary n j ∙ hour_holds n (rest_of_day j / 86400000) 0 (rest_of_day j) (omega (arith, small)) (omega arith) (zero-mod n) whole

pub last_hour : (n : ℕ) (i : ℤ) → 0 < n → IsLastOf (is_boundary Hour n) i (boundary_at Before Hour n i)
unfolding rest_of_day
last_hour n i some =
    let q : ℤ = day_of_instant i in let m : ℕ = rest_of_day i in
    let is = moment_of i in let small = rest_small i in
    let t : ℕ = m / 86400000 in let f : ℕ = m / 3600000 in
    let found = last_in (is_boundary Hour n) (hour_at q t) n 24 (hours_divide q t n (omega (arith, small))) some f
    (omega (arith, small)) i (omega (arith, ints, is)) (omega (arith, ints, is)) in
    let place : hour_at q t (f - f % n) ≡ boundary_at Before Hour n i = omega (arith, ints) in
    subst (IsLastOf (is_boundary Hour n) i) place found

pub first_hour : (n : ℕ) (i limit : ℤ) → 0 < n → IsFirstOf (is_boundary Hour n) limit i (boundary_at After Hour n i)
unfolding rest_of_day
first_hour n i limit some =
    let q : ℤ = day_of_instant i in let m : ℕ = rest_of_day i in
    let is = moment_of i in let small = rest_small i in
    let t : ℕ = m / 86400000 in let f : ℕ = m / 3600000 in
    let found = first_in (is_boundary Hour n) (hour_at q t) n 24 (hours_divide q t n (omega (arith, small))) some limit (λ _. hours_end q t n) f
    (omega (arith, small)) i (omega (arith, ints, is)) (omega (arith, ints, is)) in
    let place : hour_at q t (min 24 (f - f % n + n)) ≡ boundary_at After Hour n i = omega (arith, ints) in
    subst (IsFirstOf (is_boundary Hour n) limit i) place found
