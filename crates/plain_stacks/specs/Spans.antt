-- Where values begin and end in a stack.
use Rattle.std.specs.Prelude.{◌≡◌, refl, ℕ, ◌*◌, ℤ, pos, ◌+ℤ◌, ◌-ℤ◌, ◌*ℤ◌, neg_ℤ, int_lt, unsigned_abs, not, Bool, Option, Some, None}
use Rattle.std.specs.Prelude.{option_map, List, [], ◌∷◌, map, filter, if◌then◌else◌}
use Rattle.std.specs.Ordering.{int_eq}
use Rattle.fixed_num.specs.Number.{million, limit, rounded, floor_quotient}
use Rattle.fixed_num.specs.Ranges.{◌>>=◌, in_range}
use Rattle.plain_rows.specs.declared.transforms.Offset.{Offset}
use Rattle.plain_rows.specs.declared.transforms.Offset.TheVariants.{Zero, Normalize, Center}
use Rattle.plain_groups.specs.Aggregates.{sum_of}
use Rattle.plain_stacks.specs.declared.sums.Span.{Span}

-- how long a value is
abbrev pub size : ℤ → ℤ
size v = pos (unsigned_abs v)

-- whether both values are negative, or neither is
abbrev pub same_side : ℤ → ℤ → Bool
same_side v w = if int_lt v (pos 0) then int_lt w (pos 0) else not (int_lt w (pos 0))

-- what the values before a value add up to: with the offset zero those on its side of 0, else the lengths of all
abbrev pub sum_before : Offset → List ℤ → ℤ → ℤ
sum_before Zero before v = sum_of (filter (same_side v) before)
sum_before Normalize before v = sum_of (map size before)
sum_before Center before v = sum_of (map size before)

-- a value from its start to an end that is in range
abbrev pub from_to : ℤ → Option ℤ → Option Span
from_to start end = option_map (λ e. record { start = Some start; end = Some e }) end

-- nothing from nothing: null to null
abbrev pub no_span : Span
no_span = record { start = None; end = None }

-- a sum as its part of the whole, rounded once
abbrev pub part_of : ℤ → ℤ → ℤ
part_of whole sum = rounded (sum *ℤ pos million) (unsigned_abs whole)

-- where a value begins and ends, by the sum before it, the whole of its partition and the greatest whole; None where a total is out of
-- range
abbrev pub span_of : Offset → Option ℤ → Option ℤ → Option ℤ → ℤ → Option Span
span_of Zero before whole greatest v = before >>= λ b. from_to b (in_range (b +ℤ v))
span_of Normalize before whole greatest v = before >>= λ b. whole >>= λ w.
    if int_eq w (pos 0) then Some no_span else (in_range (part_of w b) >>= λ a. from_to a (in_range (part_of w (b +ℤ size v))))
span_of Center before whole greatest v = before >>= λ b. whole >>= λ w. greatest >>= λ g.
    in_range (rounded (g -ℤ w) 2 +ℤ b) >>= λ a. from_to a (in_range (a +ℤ size v))

-- The rules at work.

-- whole numbers
abbrev units : ℕ → ℤ
units n = pos (n * million)

abbrev below_zero : ℕ → ℤ
below_zero n = neg_ℤ (units n)

abbrev in_full : ℤ → ℤ → Option Span
in_full a b = Some (record { start = Some a; end = Some b })

-- 3, -2 and 1 from zero
a_negative_value_begins_at_the_negative_sum : sum_before Zero (units 3 ∷ []) (below_zero 2) ≡ pos 0
a_negative_value_begins_at_the_negative_sum = refl

a_positive_value_begins_at_the_positive_sum : sum_before Zero (units 3 ∷ below_zero 2 ∷ []) (units 1) ≡ units 3
a_positive_value_begins_at_the_positive_sum = refl

a_zero_begins_at_the_positive_sum : sum_before Zero (units 3 ∷ below_zero 2 ∷ []) (pos 0) ≡ units 3
a_zero_begins_at_the_positive_sum = refl

from_zero : span_of Zero (Some (pos 0)) (Some (units 6)) (Some (units 6)) (below_zero 2) ≡ in_full (pos 0) (below_zero 2)
from_zero = refl

-- the same as parts of 6
as_parts : span_of Normalize (Some (units 3)) (Some (units 6)) (Some (units 6)) (below_zero 2) ≡ in_full (pos 500000) (pos 833333)
unfolding rounded floor_quotient
as_parts = refl

of_nothing : span_of Normalize (Some (pos 0)) (Some (pos 0)) (Some (units 6)) (pos 0) ≡ Some no_span
of_nothing = refl

-- 2 where the greatest whole is 4
in_the_middle : span_of Center (Some (pos 0)) (Some (units 2)) (Some (units 4)) (units 2) ≡ in_full (units 1) (units 3)
unfolding rounded floor_quotient
in_the_middle = refl

past_the_greatest_number : span_of Zero (Some (pos limit)) None None (pos 1) ≡ None
past_the_greatest_number = refl
