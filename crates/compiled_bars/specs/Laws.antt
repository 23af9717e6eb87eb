-- What holds of specifications of bars.
use Rattle.std.specs.Prelude.{◌≡◌, ◌≢◌, ℕ, ℤ, List, [], ◌∷◌, ◌++◌, Ok}
use Rattle.std.specs.List.{AllByRecursion}
use Rattle.std.specs.Str.{IsUtf8}
use Rattle.json_exact.specs.declared.json.Json.{Json}
use Rattle.json_exact.specs.Reading.{Reads}
use Rattle.json_exact.specs.Writing.{text_of}
use Rattle.vega_spec.specs.declared.spec.VgSpec.{VgSpec}
use Rattle.vega_model.specs.Laws.{BreaksNoRule}
use Rattle.vega_model.specs.Reading.{read_of}
use Rattle.vega_writing.specs.Spec.{tree_of}
use Rattle.compiled_bars.specs.Bars.{bars_over}
use Rattle.compiled_bars.specs.Rows.{values_over, IsRow}

-- bars break no rule, whatever their name, their fields and their values
abbrev pub BarsBreakNoRule : Type 0
BarsBreakNoRule = (name x y : List ℕ) (values : Json) → BreaksNoRule (bars_over name x y values)

-- the tree of bars is read as these bars
abbrev pub BarsAreRead : Type 0
BarsAreRead = (name x y : List ℕ) (values : Json) → read_of (tree_of (bars_over name x y values)) ≡ Ok (bars_over name x y values)

-- the text of a specification: that of its tree, and a line feed
abbrev pub line_of : VgSpec → List ℕ
line_of g = text_of (tree_of g) ++ 10 ∷ []

-- bytes say a specification: they are a JSON text of its tree, and of each tree that they are a text of it is what is read
abbrev pub Says : List ℕ → VgSpec → Type 0
Says bytes g = Reads bytes (tree_of g) × ((tree : Json) → Reads bytes tree → read_of tree ≡ Ok g)

-- the text of bars over rows says them, where the name, the fields and the categories are UTF-8, the fields differ and the amounts
-- are in range
abbrev pub WrittenBarsAreRead : Type 0
WrittenBarsAreRead =
    (name x y : List ℕ) (rows : List (List ℕ × ℤ)) → IsUtf8 name → IsUtf8 x → IsUtf8 y → x ≢ y → AllByRecursion IsRow rows →
    Says (line_of (bars_over name x y (values_over x y rows))) (bars_over name x y (values_over x y rows))
