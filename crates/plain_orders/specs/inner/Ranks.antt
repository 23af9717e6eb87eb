-- Places in an order that go to lists.
use Rattle.std.specs.Prelude.{◌≡◌, ℕ, ◌<◌, ◌==◌, List, [], filter, length, take, slice_index_or}

-- the places of an order that go to a list
abbrev pub dealt : List ℕ → List ℕ → ℕ → List ℕ
dealt homes order k = filter (λ place. slice_index_or homes place 0 == k) order

-- a place of an order is ranked by how many before it go to its list
abbrev pub IsRanked : List ℕ → List ℕ → ℕ → ℕ → Type 0
IsRanked homes order place rank =
    (j : ℕ) × (j < length order) × (slice_index_or order j 0 ≡ place)
    × (rank ≡ length (dealt homes (take j order) (slice_index_or homes place 0)))

-- the first places of an order have gone to their lists, each with its rank
pub record AreDealt (homes order : List ℕ) (so_far : ℕ) (lists : List (List ℕ)) (ranks : List ℕ) : Type 0 where
  pub lists_long : length lists ≡ length homes
  pub ranks_long : length ranks ≡ length homes
  pub told : (k : ℕ) → k < length homes → slice_index_or lists k [] ≡ dealt homes (take so_far order) k
  pub ranked : (j : ℕ) → j < so_far → IsRanked homes order (slice_index_or order j 0) (slice_index_or ranks (slice_index_or order j 0) 0)
