-- The order of the rows of a mark.
use Rattle.std.specs.Prelude.{◌≡◌, refl, ℕ, ◌≤◌, Bool, true, false, Option, Some, None, List, [], ◌∷◌, map, slice_get, All, pos, codes}
use Rattle.std.specs.List.{enumerate_from}
use Rattle.std.specs.Borrow.{Bor}
use Rattle.cell_value.specs.declared.cell.Cell.{Cell}
use Rattle.cell_value.specs.declared.cell.Cell.TheVariants.{Null, Number}
use Rattle.cell_value.specs.declared.state.Keyed.{Keyed}
use Rattle.cell_value.specs.Datum.{Datum}
use Rattle.cell_value.specs.State.{greatest_id}
use Rattle.plain_rows.specs.declared.transforms.SortBy.{SortBy}
use Rattle.plain_orders.specs.Orders.{row_order, in_order}
pub use Rattle.plain_orders.specs.Listed.{data_of}
use Rattle.vega_spec.specs.declared.orders.Order.{Order}
use Rattle.vega_spec.specs.declared.orders.Order.TheVariants.{Ascending, Descending}
use Rattle.vega_spec.specs.declared.orders.Orders.{Orders}
use Rattle.vega_spec.specs.declared.orders.Orders.TheVariants as orders
use Rattle.vega_spec.specs.declared.orders.Sort.{Sort}
use Rattle.vega_spec.specs.declared.orders.Texts.{Texts}
use Rattle.vega_spec.specs.declared.orders.Texts.TheVariants as texts

-- the fields of a sort, the first of which counts most
abbrev pub fields_in : Texts → List (List ℕ)
fields_in (texts.One field) = field ∷ []
fields_in (texts.Several fields) = fields

-- the directions that a sort gives, that of its first field first
abbrev pub directions_in : Option Orders → List Order
directions_in None = []
directions_in (Some (orders.One direction)) = direction ∷ []
directions_in (Some (orders.Several directions)) = directions

-- whether a direction is the descending one; without one it is ascending
abbrev pub descends : Option Order → Bool
descends None = false
descends (Some Ascending) = false
descends (Some Descending) = true

-- a field with its direction, which stands at the same place
abbrev pub setting_of : List Order → (ℕ × List ℕ) → SortBy
setting_of directions field = record { field = field.1; descending = descends (slice_get directions field.0) }

-- the fields of a sort, each with its direction
abbrev pub sort_settings : Sort → List SortBy
sort_settings sort = map (setting_of (directions_in sort.order)) (enumerate_from 0 (fields_in sort.field))

-- the rows of a mark in order: by its sort, with ties by key; without a sort as they stand
abbrev pub rows_in_order : Option Sort → List Datum → List Datum
rows_in_order None rows = rows
rows_in_order (Some sort) rows = in_order (row_order (sort_settings sort)) rows

-- each has an id that a row may have
abbrev pub HaveIds : List (Bor Keyed) → Type 0
HaveIds rows = All (λ row. row.now.key.id ≤ greatest_id) rows

-- references to rows that read as these, with ids that rows may have
pub record ReadAs (rows : List (Bor Keyed)) (read : List Datum) : Type 0 where
  pub reads : data_of rows ≡ read
  pub ids : HaveIds rows

-- The rules at work.

-- an order by one field, and one by two of which the second falls
abbrev by_one : Option Orders → Sort
by_one order = record { field = texts.One (codes "v"); order = order }

abbrev by_two : Option Orders → Sort
by_two order = record { field = texts.Several (codes "v" ∷ codes "w" ∷ []); order = order }

abbrev setting : List ℕ → Bool → SortBy
setting field descending = record { field = field; descending = descending }

one_field : (sort_settings (by_one None) ≡ setting (codes "v") false ∷ [])
    × (sort_settings (by_one (Some (orders.One Descending))) ≡ setting (codes "v") true ∷ [])
one_field = (refl, refl)

two_fields : (sort_settings (by_two None) ≡ setting (codes "v") false ∷ setting (codes "w") false ∷ [])
    × (sort_settings (by_two (Some (orders.Several (Ascending ∷ Descending ∷ []))))
    ≡ setting (codes "v") false ∷ setting (codes "w") true ∷ [])
two_fields = (refl, refl)

-- rows with a number each, whatever the name
abbrev row_with : ℕ → Cell → Datum
row_with id cell = record { key = record { id = id; branch = 0 }; cell = λ name. cell }

abbrev three_rows : List Datum
three_rows = row_with 4 (Number (pos 3)) ∷ row_with 5 Null ∷ row_with 6 (Number (pos 3)) ∷ []

abbrev id_of : Datum → ℕ
id_of row = row.key.id

-- null stands before numbers, and ties go by key in either direction
rising_and_falling : (map id_of (rows_in_order (Some (by_one None)) three_rows) ≡ 5 ∷ 4 ∷ 6 ∷ [])
    × (map id_of (rows_in_order (Some (by_one (Some (orders.One Descending)))) three_rows) ≡ 4 ∷ 6 ∷ 5 ∷ [])
    × (map id_of (rows_in_order None three_rows) ≡ 4 ∷ 5 ∷ 6 ∷ [])
rising_and_falling = (refl, refl, refl)
