-- Steps of ticks, and nice domains. Numbers, spans and steps are counts of millionths.
use Rattle.std.specs.Prelude.{ℕ, zero, suc, ◌*◌, ◌^◌, ◌<◌, ◌≤◌, ℤ, pos, neg_ℤ, ◌-ℤ◌, int_lt, unsigned_abs, Option, Some, None, option_map}
use Rattle.std.specs.Prelude.{List, [], ◌∷◌, ◌++◌, find, nat_lt, nat_le, if◌then◌else◌, ◌≡◌, refl}
use Rattle.fixed_num.specs.Number.{limit, million, floored, ceiled, floor_quotient}
use Rattle.fixed_num.specs.Ranges.{◌>>=◌, in_range}

-- the spacing span / count lies from one number of ten-millionths of a power of ten to before another
abbrev pub LiesBetween : ℕ → ℕ → ℕ → ℕ → ℕ → Type 0
LiesBetween from before power span count = (from * power * count ≤ span * 10000000) × (span * 10000000 < before * power * count)

-- A step for so many ticks over a span: 1, 2 or 5 times a power of ten, by the spacing span / count, that is from 0.7071068, 1.414214
-- or 3.162278 times that power to before 1.414214, 3.162278 or 7.071068 times it; at least one millionth.
pub data IsStep (span count step : ℕ) : Type 0 where
  one_times : (k : ℕ) → step ≡ 10 ^ k → LiesBetween 7071068 14142140 (10 ^ k) span count → IsStep span count step
  two_times : (k : ℕ) → step ≡ 2 * 10 ^ k → LiesBetween 14142140 31622780 (10 ^ k) span count → IsStep span count step
  five_times : (k : ℕ) → step ≡ 5 * 10 ^ k → LiesBetween 31622780 70710680 (10 ^ k) span count → IsStep span count step
  least : step ≡ 1 → span * 10000000 < 7071068 * count → IsStep span count step

-- the steps 1, 2 and 5 of a power of ten, each with a million times the spacing below which it is taken
abbrev pub steps_at : ℕ → List (ℕ × ℕ)
steps_at power = (power, 1414214 * power) ∷ (2 * power, 3162278 * power) ∷ (5 * power, 7071068 * power) ∷ []

-- the steps of the first n powers of ten: 1, 2, 5, 10, 20, 50, ..
abbrev pub steps_below : ℕ → List (ℕ × ℕ)
steps_below zero = []
steps_below (suc n) = steps_below n ++ steps_at (10 ^ n)

-- the step as a function, which a law proves to be the one that IsStep asks for: the first that is taken at the spacing span / count
unfoldable pub spaced : ℕ → ℕ → Option ℕ
spaced span count = option_map (λ (s : ℕ × ℕ). s.0) (find (λ (s : ℕ × ℕ). nat_lt (span * million) (s.1 * count)) (steps_below 23))

-- the step for so many ticks over a span; none where it is out of range
unfoldable pub step_of : ℕ → ℕ → Option ℕ
step_of span count = do
  step ← spaced span count
  if nat_le step limit then Some step else None

-- how far apart the ends of a domain are
abbrev pub span_of : ℤ × ℤ → ℕ
span_of domain = unsigned_abs (domain.1 -ℤ domain.0)

-- a domain taken outward to multiples of its step
abbrev pub widened : ℕ → ℤ × ℤ → Option (ℤ × ℤ)
widened count domain = do
  step ← step_of (span_of domain) count
  low ← in_range (floored domain.0 (pos step))
  high ← in_range (ceiled domain.1 (pos step))
  Some (low, high)

-- a domain widened so many times
abbrev pub widened_times : ℕ → ℕ → ℤ × ℤ → Option (ℤ × ℤ)
widened_times zero count domain = Some domain
widened_times (suc n) count domain = do
  wider ← widened count domain
  widened_times n count wider

-- A nice domain: taken outward to multiples of its step until the step stays, at most ten times. (Where the step
-- stays, the ends are multiples of it, and further turns change nothing.) One point stays as it is.
abbrev pub nice_of : ℕ → ℤ × ℤ → Option (ℤ × ℤ)
nice_of count domain = if int_lt domain.0 domain.1 then widened_times 10 count domain else Some domain

-- ---- worked examples

-- a whole number, in millionths
abbrev whole : ℕ → ℤ
whole n = pos (n * million)

the_step_of_55 : step_of 55000000 10 ≡ Some 5000000
unfolding step_of spaced
the_step_of_55 = refl

at_a_threshold_and_below_it : (step_of 7071068 1 ≡ Some 10000000) × (step_of 7071067 1 ≡ Some 5000000)
unfolding step_of spaced
at_a_threshold_and_below_it = (refl, refl)

the_least_step : (step_of 1 1000 ≡ Some 1) × (step_of 707106 1000000 ≡ Some 1)
unfolding step_of spaced
the_least_step = (refl, refl)

the_greatest_span : (step_of (2 * limit) 1 ≡ None) × (step_of (2 * limit) 2 ≡ Some limit)
unfolding step_of spaced
the_greatest_span = (refl, refl)

nice_of_0_to_43 : nice_of 10 (whole 0, whole 43) ≡ Some (whole 0, whole 45)
unfolding step_of spaced floored ceiled floor_quotient
nice_of_0_to_43 = refl

nice_past_the_range : nice_of 1 (neg_ℤ (pos limit), pos limit) ≡ None
unfolding step_of spaced floored ceiled floor_quotient
nice_past_the_range = refl
