-- Levels of nodes: where no need leads up, a node all of whose needs lead down does not need itself.
use Rattle.std.specs.Prelude.{◌≡◌, ℕ, Bool, true, List, unwrap_or, slice_get, nat_le, nat_lt}
use Rattle.std.specs.List.{list_all}
use Rattle.need_graph.specs.Needs.{needs_of}

-- the level of a node, 0 where it has none
abbrev pub level_of : List ℕ → ℕ → ℕ
level_of levels v = unwrap_or (slice_get levels v) 0

-- whether each of these nodes is at this level or below it
abbrev pub all_within : List ℕ → ℕ → List ℕ → Bool
all_within levels level nodes = list_all (λ w. nat_le (level_of levels w) level) nodes

-- whether each of these nodes is below this level
abbrev pub all_below : List ℕ → ℕ → List ℕ → Bool
all_below levels level nodes = list_all (λ w. nat_lt (level_of levels w) level) nodes

-- no node needs one that is above it
abbrev pub NeverRises : List ℕ → List (List ℕ) → Type 0
NeverRises levels needs = (v : ℕ) → all_within levels (level_of levels v) (needs_of needs v) ≡ true

-- all that v needs is below it
abbrev pub LeadsDown : List ℕ → List (List ℕ) → ℕ → Type 0
LeadsDown levels needs v = all_below levels (level_of levels v) (needs_of needs v) ≡ true
