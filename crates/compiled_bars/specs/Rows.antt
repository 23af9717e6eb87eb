-- The values of bars, as they are written.
use Rattle.std.specs.Prelude.{ℕ, ℤ, List, [], ◌∷◌, map}
use Rattle.std.specs.Str.{IsUtf8}
use Rattle.fixed_num.specs.Number.{IsNumber}
use Rattle.json_exact.specs.declared.json.Json.{Json}
use Rattle.json_exact.specs.declared.json.Json.TheVariants as json

-- a value: an object with its category under the first field and its amount, in millionths, under the second
abbrev pub row_object : List ℕ → List ℕ → List ℕ × ℤ → Json
row_object x y row = json.Object (record { name = x; value = json.Text row.0 } ∷ record { name = y; value = json.Number row.1 } ∷ [])

-- the list of them
abbrev pub values_over : List ℕ → List ℕ → List (List ℕ × ℤ) → Json
values_over x y rows = json.List (map (row_object x y) rows)

-- the category is UTF-8, and the amount is in range
abbrev pub IsRow : List ℕ × ℤ → Type 0
IsRow row = IsUtf8 row.0 × IsNumber row.1
