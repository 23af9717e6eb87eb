-- What expressions read of the stores of selections.
use Rattle.std.specs.Prelude.{◌≡◌, refl, ℕ, ℤ, pos, negsuc, Bool, true, false, if◌then◌else◌, Option, Some, None, List, [], ◌∷◌, length, find, map, All, codes}
use Rattle.std.specs.Option.{option_map_or}
use Rattle.std.specs.List.{list_any, list_all}
use Rattle.std.specs.Str.{bytes_eq}
use Rattle.std.specs.FinMap.{entries}
use Rattle.fixed_num.specs.Ranges.{is_within}
use Rattle.time_calc.specs.Texts.{read_instant}
use Rattle.cell_value.specs.declared.cell.Cell.{Cell}
use Rattle.cell_value.specs.declared.cell.Cell.TheVariants.{Null, Flag, Number, Text, Pair}
use Rattle.cell_value.specs.declared.state.Extent.{Extent}
use Rattle.cell_value.specs.declared.state.StoreOf.{StoreOf}
use Rattle.cell_value.specs.Cell.{same_cells}
use Rattle.cell_value.specs.Datum.{CellAt}
use Rattle.cell_value.specs.Row.{Cells, cell_of}
use Rattle.expr_eval.specs.Plain.{no_values}
use Rattle.expr_eval.specs.Values.{Values}

-- ---- a store holds a row

-- the names of a row's cells
abbrev pub names_of : Cells → List (List ℕ)
names_of row = map (λ entry. entry.0) (entries row)

-- the fields of tuples: each tuple of a store has those of the first
abbrev pub fields_of_tuples : List Cells → List (List ℕ)
fields_of_tuples [] = []
fields_of_tuples (tuple ∷ others) = names_of tuple

-- the fields of what a store has: of its extents where there are some, else of its tuples
abbrev pub fields_in : List Cells → List Extent → List (List ℕ)
fields_in tuples [] = fields_of_tuples tuples
fields_in tuples (e ∷ es) = map (λ (e : Extent). e.field) (e ∷ es)

abbrev pub fields_of : StoreOf → List (List ℕ)
fields_of store = fields_in store.tuples store.extents

-- a row agrees with a tuple in these fields; where there is none, it always does
abbrev pub agrees : List (List ℕ) → CellAt → Cells → Bool
agrees fields row tuple = list_all (λ name. same_cells (row name) (cell_of tuple name)) fields

-- the number by which a cell is compared with an extent: of an extent of instants a text counts as the instant that it gives
abbrev pub number_for : Bool → Cell → Option ℤ
number_for temporal Null = None
number_for temporal (Flag b) = None
number_for temporal (Number n) = Some n
number_for temporal (Text t) = if temporal then read_instant t else None
number_for temporal (Pair a b) = None

-- a cell lies in an extent, with its ends
abbrev pub has_cell : Extent → Cell → Bool
has_cell e cell = option_map_or (is_within e.lo e.hi) (number_for e.temporal cell) false

-- a row does, by its cell of the extent's field
abbrev pub lies_in : CellAt → Extent → Bool
lies_in row e = has_cell e (row e.field)

-- A row is held: where there are extents, it lies in all of them; else it agrees with one of the tuples in all fields. Where there is nothing, none
-- is held.
abbrev pub holds_in : List Cells → List Extent → CellAt → Bool
holds_in tuples [] row = list_any (agrees (fields_of_tuples tuples) row) tuples
holds_in tuples (e ∷ es) row = list_all (lies_in row) (e ∷ es)

-- a store holds a row
abbrev pub holds : StoreOf → CellAt → Bool
holds store row = holds_in store.tuples store.extents row

-- ---- what is read of stores

-- how many tuples there are; 1 where there are extents
abbrev pub count_in : List Cells → List Extent → ℕ
count_in tuples [] = length tuples
count_in tuples (e ∷ es) = 1

abbrev pub count_of : StoreOf → ℕ
count_of store = count_in store.tuples store.extents

-- the ends of an extent as a cell
abbrev pub ends_of : Extent → Cell
ends_of e = Pair e.lo e.hi

-- the two ends that a store has of a channel; null where it has none
abbrev pub ends_along : List ℕ → StoreOf → Cell
ends_along channel store = option_map_or ends_of (find (λ (e : Extent). bytes_eq e.channel channel) store.extents) Null

-- the first store of a name
abbrev pub store_named : List StoreOf → List ℕ → Option StoreOf
store_named stores name = find (λ (store : StoreOf). bytes_eq store.name name) stores

-- what is read of stores: a selection has no value of its own, and a name without a store is that of an empty one
abbrev pub values_of_stores : List StoreOf → Values
values_of_stores stores = record no_values {
  member = λ name channel. option_map_or (ends_along channel) (store_named stores name) Null;
  stored = λ name. option_map_or count_of (store_named stores name) 0;
  selects = λ name row. option_map_or (λ store. holds store row) (store_named stores name) false;
  fields = λ name. option_map_or fields_of (store_named stores name) [];
}

-- ---- the law

-- of a row a store reads its fields alone: it holds both of two rows, or none, that have the same cells in all of its fields
abbrev pub StoresReadTheirFields : Type 0
StoresReadTheirFields = (stores : List StoreOf) (name : List ℕ) (a b : CellAt)
    → All (λ field. a field ≡ b field) ((values_of_stores stores).fields name)
    → (values_of_stores stores).selects name a ≡ (values_of_stores stores).selects name b

-- The rules at work.

-- each name has this cell
abbrev row_of_cell : Cell → CellAt
row_of_cell cell name = cell

abbrev an_extent : Bool → Extent
an_extent temporal = record { channel = codes "x"; field = codes "p"; temporal = temporal; lo = negsuc 0; hi = pos 5 }

abbrev brush : Bool → StoreOf
brush temporal = record { name = codes "brush"; tuples = []; extents = an_extent temporal ∷ []; panel = None; unit = 0 }

abbrev an_empty_store : StoreOf
an_empty_store = record { name = codes "pick"; tuples = []; extents = []; panel = None; unit = 0 }

ends_are_in : (holds (brush false) (row_of_cell (Number (pos 5))) ≡ true) × (holds (brush false) (row_of_cell (Number (pos 6))) ≡ false)
    × (holds (brush false) (row_of_cell (Text (codes "1"))) ≡ false) × (holds (brush false) (row_of_cell Null) ≡ false)
ends_are_in = (refl, refl, refl, refl)

an_empty_store_holds_no_row : (holds an_empty_store (row_of_cell Null) ≡ false) × (count_of an_empty_store ≡ 0)
an_empty_store_holds_no_row = (refl, refl)

-- a tuple without fields agrees with every row
no_field_agrees : (tuple : Cells) (row : CellAt) → agrees [] row tuple ≡ true
no_field_agrees tuple row = refl

ends_by_their_channels : ((values_of_stores (brush true ∷ [])).member (codes "brush") (codes "x") ≡ Pair (negsuc 0) (pos 5))
    × ((values_of_stores (brush true ∷ [])).member (codes "brush") (codes "y") ≡ Null)
    × ((values_of_stores (brush true ∷ [])).stored (codes "brush") ≡ 1)
    × ((values_of_stores (brush true ∷ [])).member (codes "pick") (codes "x") ≡ Null)
ends_by_their_channels = (refl, refl, refl, refl)
