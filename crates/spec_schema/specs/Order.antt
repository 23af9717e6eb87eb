-- Which faults stand first in the text.
use Rattle.std.specs.Prelude.{◌≡◌, ℕ, ◌==◌, nat_lt, Bool, true, false, ◌&&◌, ◌||◌, if◌then◌else◌, Option, Some, None, List, [], ◌∷◌, refl}
use Rattle.std.specs.List.{list_all}
use Rattle.spec_schema.specs.declared.fault.Fault.{Fault}

-- a place stands before another: it is a front of the other, or the first number in which they differ is less
abbrev pub is_before : List ℕ → List ℕ → Bool
is_before [] [] = false
is_before [] (n ∷ ns) = true
is_before (m ∷ ms) [] = false
is_before (m ∷ ms) (n ∷ ns) = nat_lt m n || (m == n && is_before ms ns)

-- the one of two faults that stands first, and the first one where both stand at the same place
abbrev pub earlier : Option Fault → Option Fault → Option Fault
earlier None other = other
earlier (Some fault) None = Some fault
earlier (Some fault) (Some other) = if is_before other.place fault.place then Some other else Some fault

a_value_before_its_inside : is_before (1 ∷ []) (1 ∷ 0 ∷ []) ≡ true
a_value_before_its_inside = refl

a_member_before_the_next : is_before (1 ∷ 9 ∷ []) (2 ∷ []) ≡ true
a_member_before_the_next = refl

no_place_before_itself : is_before (1 ∷ 2 ∷ []) (1 ∷ 2 ∷ []) ≡ false
no_place_before_itself = refl

-- each fault stands before all that follow it
abbrev pub in_order : List Fault → Bool
in_order [] = true
in_order (fault ∷ others) = list_all (λ (other : Fault). is_before fault.place other.place) others && in_order others
