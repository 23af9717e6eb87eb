-- Which nodes of a graph need themselves. A graph is a list, and its entry at v has the nodes that v needs. A number that is no
-- node needs nothing.
use Rattle.std.specs.Prelude.{◌≡◌, refl, ℕ, zero, suc, Bool, true, false, List, [], ◌∷◌, length, unwrap_or, slice_get, map}
use Rattle.std.specs.Prelude.{◌==◌, ◌&&◌, ◌||◌, IsTrue}
use Rattle.std.specs.List.{list_any}

-- the nodes that v needs by itself
abbrev pub needs_of : List (List ℕ) → ℕ → List ℕ
needs_of needs v = unwrap_or (slice_get needs v) []

-- whether a number stands in a list
abbrev pub has : List ℕ → ℕ → Bool
has numbers v = list_any (λ u. u == v) numbers

-- v needs w, by itself or through others
pub data Needs (needs : List (List ℕ)) : ℕ → ℕ → Type 0 where
  by_itself : (v w : ℕ) → IsTrue (has (needs_of needs v) w) → Needs needs v w
  through : (v u w : ℕ) → IsTrue (has (needs_of needs v) u) → Needs needs u w → Needs needs v w

-- whether v needs w, by itself or through nodes below `bound` alone: a way through nodes up to `bound` is one through lesser nodes, or
-- one from v to `bound` and one from there to w
unfoldable pub needs_through : List (List ℕ) → ℕ → ℕ → ℕ → Bool
needs_through needs zero v w = has (needs_of needs v) w
needs_through needs (suc bound) v w =
    needs_through needs bound v w || (needs_through needs bound v bound && needs_through needs bound bound w)

-- whether v needs itself, by itself or through others
unfoldable pub needs_itself : List (List ℕ) → ℕ → Bool
needs_itself needs v = needs_through needs (length needs) v v

-- The rule at work: 0 and 1 need each other, 2 stands on the way from them to 3, which needs itself, and 4 needs them all.

abbrev between_two_cycles : List (List ℕ)
between_two_cycles = (1 ∷ 2 ∷ []) ∷ (0 ∷ []) ∷ (3 ∷ []) ∷ (3 ∷ 9 ∷ []) ∷ (0 ∷ 2 ∷ []) ∷ []

each_node : map (needs_itself between_two_cycles) (0 ∷ 1 ∷ 2 ∷ 3 ∷ 4 ∷ 9 ∷ []) ≡ true ∷ true ∷ false ∷ true ∷ false ∷ false ∷ []
unfolding needs_through needs_itself
each_node = refl
