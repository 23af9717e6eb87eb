-- Results that may be out of range, or lacking.
use Rattle.std.specs.Prelude.{◌≡◌, refl, ◌+◌, ℤ, pos, neg_ℤ, int_lt, int_le, ◌&&◌, Bool, true, false, Option, Some, None, List, [], ◌∷◌, if◌then◌else◌}
use Rattle.fixed_num.specs.Number.{limit}

-- None stands for a result that is lacking, and goes on to all that needs it
infixl 10 ◌>>=◌
abbrev pub ◌>>=◌ : {A B : Type 0} → Option A → (A → Option B) → Option B
None >>= f = None
(Some x) >>= f = f x

-- a number lies between two, both included
abbrev pub is_within : ℤ → ℤ → ℤ → Bool
is_within low high z = int_le low z && int_le z high

-- the count of millionths, if it is in range
abbrev pub in_range : ℤ → Option ℤ
in_range m = if int_lt m (neg_ℤ (pos limit)) then None else (if int_lt (pos limit) m then None else Some m)

-- what is found for all, if it is for each
abbrev pub all_found : {X : Type 0} → List (Option X) → Option (List X)
all_found [] = Some []
all_found (found ∷ others) = do
  x ← found
  xs ← all_found others
  Some (x ∷ xs)

-- The rules at work.

the_bounds_are_within : (is_within (neg_ℤ (pos 1)) (pos 2) (neg_ℤ (pos 1)) && is_within (neg_ℤ (pos 1)) (pos 2) (pos 2)) ≡ true
the_bounds_are_within = refl

past_a_bound_is_not_within : is_within (neg_ℤ (pos 1)) (pos 2) (pos 3) ≡ false
past_a_bound_is_not_within = refl

the_greatest_number : in_range (pos limit) ≡ Some (pos limit)
the_greatest_number = refl

the_least_number : in_range (neg_ℤ (pos limit)) ≡ Some (neg_ℤ (pos limit))
the_least_number = refl

past_the_greatest_number : in_range (pos (limit + 1)) ≡ None
past_the_greatest_number = refl

below_the_least_number : in_range (neg_ℤ (pos (limit + 1))) ≡ None
below_the_least_number = refl

out_of_range_goes_on : (in_range (pos (limit + 1)) >>= λ m. Some (pos 0)) ≡ None
out_of_range_goes_on = refl

each_is_found : all_found (Some (pos 1) ∷ Some (pos 2) ∷ []) ≡ Some (pos 1 ∷ pos 2 ∷ [])
each_is_found = refl

one_is_lacking : all_found (Some (pos 1) ∷ None ∷ []) ≡ None
one_is_lacking = refl
