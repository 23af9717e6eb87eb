-- The numbers of units by the views up to which they share a scale.
use Rattle.std.specs.Prelude.{ℕ, List, [], slice_get, unwrap_or}

-- the numbers in the row of a view, none past the last row
abbrev pub row_at : List (List ℕ) → ℕ → List ℕ
row_at rows home = unwrap_or (slice_get rows home) []
