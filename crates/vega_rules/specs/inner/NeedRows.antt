-- Rows of what is needed, to which needs are added.
use Rattle.std.specs.Prelude.{ℕ, List, [], ◌∷◌, ◌++◌, fold, slice_get, slice_set, unwrap_or}

-- one more need
abbrev pub with_need : List (List ℕ) → ℕ × ℕ → List (List ℕ)
with_need rows edge = slice_set rows edge.0 (unwrap_or (slice_get rows edge.0) [] ++ edge.1 ∷ [])

-- several more
abbrev pub with_needs : List (List ℕ) → List (ℕ × ℕ) → List (List ℕ)
with_needs rows edges = fold with_need rows edges
