-- The trees of values that several objects hold.
use Rattle.std.specs.Prelude.{ℕ, ℤ, List, [], ◌∷◌, Bool, Option, Some, None, map, codes}
use Rattle.json_exact.specs.declared.json.Json.{Json}
use Rattle.json_exact.specs.declared.json.Json.TheVariants as json
use Rattle.cell_value.specs.declared.cell.Cell.{Cell}
use Rattle.cell_value.specs.declared.cell.Cell.TheVariants as cell
use Rattle.expr_syntax.specs.declared.expr.Expr.{Expr}
use Rattle.expr_syntax.specs.Writing.{text_of}
use Rattle.vega_writing.specs.declared.slots.Slot.{Slot}
use Rattle.vega_writing.specs.Slots.{must, object}

abbrev pub text_tree : List ℕ → Json
text_tree text = json.Text text

abbrev pub flag_tree : Bool → Json
flag_tree flag = json.Flag flag

abbrev pub number_tree : ℤ → Json
number_tree number = json.Number number

abbrev pub list_tree : {X : Type 0} → (X → Json) → List X → Json
list_tree tree items = json.List (map tree items)

-- null, where nothing is there
abbrev pub or_null : {X : Type 0} → (X → Json) → Option X → Json
or_null tree None = json.Null
or_null tree (Some x) = tree x

-- two texts
abbrev pub pair_tree : List ℕ × List ℕ → Json
pair_tree texts = json.List (text_tree texts.0 ∷ text_tree texts.1 ∷ [])

-- a cell: a pair as the list of its two numbers
unfoldable pub cell_tree : Cell → Json
cell_tree cell.Null = json.Null
cell_tree (cell.Flag flag) = flag_tree flag
cell_tree (cell.Number number) = number_tree number
cell_tree (cell.Text text) = text_tree text
cell_tree (cell.Pair first second) = json.List (number_tree first ∷ number_tree second ∷ [])

-- an expression: its text
abbrev pub expression_tree : Expr → Json
expression_tree e = text_tree (text_of e)

-- the value of an expression
abbrev pub computed_slots : Expr → List Slot
computed_slots e = must (codes "signal") (expression_tree e) ∷ []

abbrev pub computed_tree : Expr → Json
computed_tree e = object (computed_slots e)
