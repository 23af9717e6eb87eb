-- Ticks of numbers: the multiples of the step in a domain.
use Rattle.std.specs.Prelude.{ℕ, zero, suc, ◌*◌, ◌/◌, ℤ, pos, neg_ℤ, ◌+ℤ◌, ◌-ℤ◌, ◌*ℤ◌, ◌≤ℤ◌, ◌<ℤ◌, int_lt, unsigned_abs, Option, Some, None}
use Rattle.std.specs.Prelude.{option_map, Result, List, [], ◌∷◌, if◌then◌else◌, ◌≡◌, refl}
use Rattle.std.specs.Option.{ok_or}
use Rattle.std.specs.List.{All, AllPairs, Contains}
use Rattle.fixed_num.specs.Number.{limit, million, ceiled, floored, floor_quotient}
use Rattle.tick_kit.specs.declared.multiples.TickError.{TickError}
use Rattle.tick_kit.specs.declared.multiples.TickError.TheVariants as fault
use Rattle.tick_kit.specs.Steps.{step_of, spaced, span_of}

-- so many numbers, the first one and then each a step above the one before
abbrev pub numbers_apart : ℕ → ℤ → ℤ → List ℤ
numbers_apart zero step first = []
numbers_apart (suc n) step first = first ∷ numbers_apart n step (first +ℤ step)

-- how many numbers a step apart there are from the first up to an end
abbrev pub count_apart : ℤ → ℤ → ℤ → ℕ
count_apart step first high = unsigned_abs (high +ℤ step -ℤ first) / unsigned_abs step

-- the multiples of a step above 0 in a domain
unfoldable pub multiples_in : ℤ → ℤ × ℤ → List ℤ
multiples_in step domain = numbers_apart (count_apart step (ceiled domain.0 step) domain.1) step (ceiled domain.0 step)

-- the ticks of a domain: the multiples of its step in it; one point is its own tick; none where the step is out of range
abbrev pub ticks_of : ℕ → ℤ × ℤ → Option (List ℤ)
ticks_of count domain =
    if int_lt domain.0 domain.1 then option_map (λ step. multiples_in (pos step) domain) (step_of (span_of domain) count)
    else Some (domain.0 ∷ [])

-- the fault that an error of `ticks` stands for; refused memory is free
abbrev pub cause : TickError → Option TickError
cause fault.Overflow = Some fault.Overflow
cause fault.Memory = None

-- the ticks, and a fault where there are none
abbrev pub ticks_or_fault : ℕ → ℤ × ℤ → Result (List ℤ) TickError
ticks_or_fault count domain = ok_or (ticks_of count domain) fault.Overflow

-- ---- what lists of ticks are

-- numbers are all those with a property, from the least to the greatest
pub record AreAll (P : ℤ → Type 0) (numbers : List ℤ) : Type 0 where
  pub ascending : AllPairs (λ a b. a <ℤ b) numbers
  pub each : All P numbers
  pub all : (z : ℤ) → P z → Contains numbers z

-- a number is a multiple of a step in a domain
pub record IsMultipleIn (step : ℤ) (domain : ℤ × ℤ) (z : ℤ) : Type 0 where
  pub times : ℤ
  pub multiple : z ≡ times *ℤ step
  pub not_below : domain.0 ≤ℤ z
  pub not_above : z ≤ℤ domain.1

-- the multiples in a domain are all multiples in it
abbrev pub MultiplesAreAll : Type 0
MultiplesAreAll = (step : ℤ) (domain : ℤ × ℤ) → pos 0 <ℤ step → domain.0 ≤ℤ domain.1 → AreAll (IsMultipleIn step domain) (multiples_in step domain)

-- ---- worked examples

-- a whole number, in millionths
abbrev whole : ℕ → ℤ
whole n = pos (n * million)

ticks_from_0_to_12 : ticks_of 8 (whole 0, whole 12)
    ≡ Some (whole 0 ∷ whole 2 ∷ whole 4 ∷ whole 6 ∷ whole 8 ∷ whole 10 ∷ whole 12 ∷ [])
unfolding multiples_in step_of spaced ceiled floored floor_quotient
ticks_from_0_to_12 = refl

ticks_from_0_to_4 : ticks_of 2 (whole 0, whole 4) ≡ Some (whole 0 ∷ whole 2 ∷ whole 4 ∷ [])
unfolding multiples_in step_of spaced ceiled floored floor_quotient
ticks_from_0_to_4 = refl

ticks_on_both_sides_of_0 : ticks_of 3 (neg_ℤ (whole 3), whole 3) ≡ Some (neg_ℤ (whole 2) ∷ whole 0 ∷ whole 2 ∷ [])
unfolding multiples_in step_of spaced ceiled floored floor_quotient
ticks_on_both_sides_of_0 = refl

no_multiple_in_the_domain : ticks_of 1 (pos 1100000, pos 1900000) ≡ Some []
unfolding multiples_in step_of spaced ceiled floored floor_quotient
no_multiple_in_the_domain = refl

a_point_is_its_own_tick : ticks_of 5 (whole 7, whole 7) ≡ Some (whole 7 ∷ [])
a_point_is_its_own_tick = refl

a_step_out_of_range : ticks_of 1 (neg_ℤ (pos limit), pos limit) ≡ None
unfolding step_of spaced
a_step_out_of_range = refl
