-- A search for a way back to a node: which numbers were seen, and which of them wait to be looked at.
use Rattle.std.specs.Prelude.{◌≡◌, ◌≢◌, ◌⊎◌, ℕ, ◌+◌, Bool, true, false, List, [], ◌∷◌, length, unwrap_or, slice_get}
use Rattle.need_graph.specs.Needs.{Needs, needs_of, has}

-- whether a number was seen; a number that is no node counts as seen, as it needs nothing
abbrev pub is_seen : List Bool → ℕ → Bool
is_seen seen v = unwrap_or (slice_get seen v) true

-- how many nodes weren't seen
abbrev pub count_unseen : List Bool → ℕ
count_unseen [] = 0
count_unseen (true ∷ seen) = count_unseen seen
count_unseen (false ∷ seen) = 1 + count_unseen seen

-- these nodes are seen from now on, and those of them wait that weren't seen
pub record Adds (nodes : List ℕ) (seen : List Bool) (waiting : List ℕ) (seen' : List Bool) (waiting' : List ℕ) : Type 0 where
  pub all : (v : ℕ) → has nodes v ≡ true → is_seen seen' v ≡ true
  pub kept : (v : ℕ) → is_seen seen v ≡ true → is_seen seen' v ≡ true
  pub wait : (v : ℕ) → has waiting v ≡ true → has waiting' v ≡ true
  pub seen_from : (v : ℕ) → is_seen seen' v ≡ true → (is_seen seen v ≡ true) ⊎ (has waiting' v ≡ true)
  pub waiting_from : (v : ℕ) → has waiting' v ≡ true → (has waiting v ≡ true) ⊎ (has nodes v ≡ true)
  pub as_many : count_unseen seen' + length waiting' ≡ count_unseen seen + length waiting

-- v itself is none of the nodes that u needs, and all these were seen
abbrev pub IsPassed : List (List ℕ) → ℕ → List Bool → ℕ → Type 0
IsPassed needs v seen u = (w : ℕ) → has (needs_of needs u) w ≡ true → (w ≢ v) × (is_seen seen w ≡ true)

-- what a search from v keeps true: what waits is v, or v needs it; v and what was seen waits, or is passed
pub record IsSearch (needs : List (List ℕ)) (v : ℕ) (seen : List Bool) (waiting : List ℕ) : Type 0 where
  pub needed : (u : ℕ) → has waiting u ≡ true → (u ≡ v) ⊎ Needs needs v u
  pub passed : (u : ℕ) → (u ≡ v) ⊎ (is_seen seen u ≡ true) → (has waiting u ≡ true) ⊎ IsPassed needs v seen u
