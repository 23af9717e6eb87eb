-- What stands in rows that are given as JSON.
use Rattle.std.specs.Prelude.{ℕ, List}
use Rattle.std.specs.Borrow.{Bor}

-- a row's number with a field that stands elsewhere
abbrev pub bad_row : ℕ × Bor (List ℕ) → ℕ × List ℕ
bad_row bad = (bad.0, bad.1.now)
