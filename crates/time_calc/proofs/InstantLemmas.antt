-- An instant is a day and a time of day, in one way.
use Rattle.std.proofs.Common.{◌≡◌, ℕ, ◌+◌, ◌*◌, ◌/◌, ◌%◌, ◌<◌, ◌≤◌, true, ap, ◌∙◌, arith, ℤ, pos, negsuc, ◌+ℤ◌, ◌*ℤ◌, unsigned_abs}
use Rattle.std.specs.Int.{int_div_euclid, int_rem_euclid}
use Rattle.std.proofs.lemmas.Bool.{leb-true, le-leb, and_parts, and_from}
use Rattle.std.proofs.lemmas.Int.{ints}
use Rattle.time_calc.specs.declared.instants.TimeOfDay.{TimeOfDay}
use Rattle.time_calc.specs.Instants.{is_time, since_midnight, instant_of_day, day_of_instant, time_of_instant, time_after_midnight}
use Rattle.time_calc.specs.InstantLaws.{InstantsAreOfTheirDays, DaysHaveTimes}

-- ---- a day of so many milliseconds

pub day_and_rest : (i : ℤ) → int_div_euclid i (pos 86400000) *ℤ pos 86400000 +ℤ pos (unsigned_abs (int_rem_euclid i (pos 86400000))) ≡ i
day_and_rest (pos n) = omega (arith, ints)
day_and_rest (negsuc n) = omega (arith, ints)

pub rest_below : (i : ℤ) → unsigned_abs (int_rem_euclid i (pos 86400000)) < 86400000
rest_below (pos n) = omega arith
rest_below (negsuc n) = omega arith

-- ---- a time of day

time_is_whole : (n : ℕ) → n / 3600000 * 3600000 + n / 60000 % 60 * 60000 + n / 1000 % 60 * 1000 + n % 1000 ≡ n
time_is_whole n = omega arith

shown : (n : ℕ) → n < 86400000 → is_time (time_after_midnight n) ≡ true
shown n h =
    and_from _ _ (and_from _ _ (and_from _ _ (le-leb (n / 3600000) 23 (omega (arith, h))) (le-leb (n / 60000 % 60) 59 (omega arith)))
    (le-leb (n / 1000 % 60) 59 (omega arith))) (le-leb (n % 1000) 999 (omega arith))

pub instants_are_of_their_days : InstantsAreOfTheirDays
unfolding instant_of_day day_of_instant time_of_instant
instants_are_of_their_days i =
    let n : ℕ = unsigned_abs (int_rem_euclid i (pos 86400000)) in
    record {
      time = shown n (rest_below i);
      whole = ap (λ k. int_div_euclid i (pos 86400000) *ℤ pos 86400000 +ℤ pos k) (time_is_whole n) ∙ day_and_rest i;
    }

-- ---- back again

pub record Shows (t : TimeOfDay) : Type 0 where
  pub hours : t.hours ≤ 23
  pub minutes : t.minutes ≤ 59
  pub seconds : t.seconds ≤ 59
  pub milliseconds : t.milliseconds ≤ 999

pub shows : (t : TimeOfDay) → is_time t ≡ true → Shows t
shows t h =
    let first = and_parts _ _ h in let second = and_parts _ _ first.0 in let third = and_parts _ _ second.0 in
    record { hours = leb-true _ _ third.0; minutes = leb-true _ _ third.1; seconds = leb-true _ _ second.1; milliseconds = leb-true _ _ first.1 }

-- the parts of the milliseconds since midnight
parts_back : (h m s k : ℕ) → m ≤ 59 → s ≤ 59 → k ≤ 999 → (n : ℕ) → n ≡ h * 3600000 + m * 60000 + s * 1000 + k →
    (n / 3600000 ≡ h) × (n / 60000 % 60 ≡ m) × (n / 1000 % 60 ≡ s) × (n % 1000 ≡ k)
parts_back h m s k hm hs hk n e = (omega (arith, e, hm, hs, hk), omega (arith, e, hm, hs, hk), omega (arith, e, hm, hs, hk), omega (arith, e, hm, hs, hk))

pub one_day : (day q : ℤ) (s r : ℕ) → s < 86400000 → r < 86400000 → q *ℤ pos 86400000 +ℤ pos r ≡ day *ℤ pos 86400000 +ℤ pos s → (q ≡ day) × (r ≡ s)
one_day day q s r hs hr e = (omega (arith, ints, e, hs, hr), omega (arith, ints, e, hs, hr))

clock : ℕ → ℕ → ℕ → ℕ → TimeOfDay
clock a b c d = record { hours = a; minutes = b; seconds = c; milliseconds = d }

same_time : (t : TimeOfDay) (a b c d : ℕ) → a ≡ t.hours → b ≡ t.minutes → c ≡ t.seconds → d ≡ t.milliseconds → clock a b c d ≡ t
unfolding clock
same_time t a b c d p q r s =
    ap (λ x. clock x b c d) p ∙ ap (λ x. clock t.hours x c d) q ∙ ap (λ x. clock t.hours t.minutes x d) r ∙ ap (clock t.hours t.minutes t.seconds) s

pub days_have_times : DaysHaveTimes
unfolding instant_of_day day_of_instant time_of_instant clock
days_have_times day t h =
    let shown = shows t h in
    let i : ℤ = day *ℤ pos 86400000 +ℤ pos (since_midnight t) in
    let n : ℕ = unsigned_abs (int_rem_euclid i (pos 86400000)) in
    let within : since_midnight t < 86400000 = omega (arith, shown.hours, shown.minutes, shown.seconds, shown.milliseconds) in
    let both = one_day day (int_div_euclid i (pos 86400000)) (since_midnight t) n within (rest_below i) (day_and_rest i) in
    let back = parts_back t.hours t.minutes t.seconds t.milliseconds shown.minutes shown.seconds shown.milliseconds n both.1 in
    record { on_day = both.0; at_time = same_time t (n / 3600000) (n / 60000 % 60) (n / 1000 % 60) (n % 1000) back.0 back.1 back.2 back.3 }
