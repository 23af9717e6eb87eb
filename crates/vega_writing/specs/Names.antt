-- The names of codes.
use Rattle.std.specs.Prelude.{ℕ, List, [], unwrap_or, slice_get}
use Rattle.json_exact.specs.declared.json.Json.{Json}
use Rattle.vega_writing.specs.Trees.{text_tree}

-- the name of a code in a table, empty where the code stands for none
abbrev pub name_at : List (List ℕ) → ℕ → List ℕ
name_at table code = unwrap_or (slice_get table code) []

-- the name of a code, as a tree
abbrev pub code_tree : List (List ℕ) → ℕ → Json
code_tree table code = text_tree (name_at table code)
