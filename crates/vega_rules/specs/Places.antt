-- Places in a specification.
use Rattle.std.specs.Prelude.{◌≡◌, ℕ, ◌==◌, nat_lt, Bool, true, false, ◌&&◌, ◌||◌, List, [], ◌∷◌, ◌++◌, ◌-◌, length, take, map, bytes_eq, refl}

-- they are the same
abbrev pub same_place : List ℕ → List ℕ → Bool
same_place first second = bytes_eq first second

-- a place is inside another one: this is a front of it, and shorter
abbrev pub is_inside : List ℕ → List ℕ → Bool
is_inside outer [] = false
is_inside [] (n ∷ ns) = true
is_inside (m ∷ ms) (n ∷ ns) = m == n && is_inside ms ns

-- what stands at a place ends before another place: at the first number in which they differ, that of the former is less.
-- So nothing ends before what is inside it
abbrev pub ends_before : List ℕ → List ℕ → Bool
ends_before first [] = false
ends_before [] (n ∷ ns) = false
ends_before (m ∷ ms) (n ∷ ns) = nat_lt m n || (m == n && ends_before ms ns)

-- the fronts of a place, the longest first: those of objects are the object there and the ones round it, from the innermost
abbrev pub fronts : List ℕ → List (List ℕ)
fronts [] = [] ∷ []
fronts (n ∷ ns) = map (λ front. n ∷ front) (fronts ns) ++ ([] ∷ [])

-- the place of which a place is a child
abbrev pub parent : List ℕ → List ℕ
parent place = take (length place - 1) place

from_the_innermost : fronts (3 ∷ 1 ∷ []) ≡ (3 ∷ 1 ∷ []) ∷ (3 ∷ []) ∷ [] ∷ []
from_the_innermost = refl

an_earlier_sibling : ends_before (3 ∷ 1 ∷ []) (3 ∷ 2 ∷ 0 ∷ []) ≡ true
an_earlier_sibling = refl

not_what_is_round : ends_before (3 ∷ []) (3 ∷ 2 ∷ 0 ∷ []) ≡ false
not_what_is_round = refl

a_child : parent (3 ∷ 1 ∷ 4 ∷ []) ≡ 3 ∷ 1 ∷ []
a_child = refl

not_inside_itself : is_inside (3 ∷ 1 ∷ []) (3 ∷ 1 ∷ []) ≡ false
not_inside_itself = refl
