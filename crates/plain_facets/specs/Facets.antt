-- The cells of a facet: those of each of its fields, in their order, and those of its copies; and which rows each copy has.
use Rattle.std.specs.Prelude.{◌≡◌, refl, ℕ, ◌+◌, ◌-◌, ◌==◌, Bool, true, false, pos, Option, Some, None, List, [], ◌∷◌, map, flat_map, filter, find}
use Rattle.std.specs.Prelude.{◌≢◌, AllPairs, length, slice_get, unwrap_or, is_some, codes, if◌then◌else◌}
use Rattle.std.specs.Option.{option_map}
use Rattle.std.specs.List.{position_from, enumerate_from}
use Rattle.std.specs.Str.{bytes_eq}
use Rattle.std.specs.declared.cmp.Ordering.{Ordering}
use Rattle.std.specs.Ordering.{nat_cmp, ordering_then, eq_by_cmp}
use Rattle.std.specs.Cmp.Lexicographic.{slice_cmp}
use Rattle.cell_value.specs.declared.cell.Cell.{Cell}
use Rattle.cell_value.specs.declared.cell.Cell.TheVariants.{Null, Number, Text}
use Rattle.cell_value.specs.Cell.{cell_cmp, same_cells}
use Rattle.cell_value.specs.Datum.{Datum}
use Rattle.tick_kit.specs.Domains.{ascending}
use Rattle.plain_groups.specs.Groups.{firsts}
use Rattle.plain_rows.specs.declared.transforms.SortBy.{SortBy}
use Rattle.plain_facets.specs.declared.copies.DividedBy.{DividedBy}

-- the cells of a row in some fields
abbrev pub key_of : List (List ℕ) → Datum → List Cell
key_of fields row = map row.cell fields

-- whether two keys have the same cells
abbrev pub is_key : List Cell → List Cell → Bool
is_key = eq_by_cmp (slice_cmp cell_cmp)

-- no two keys have the same cells
abbrev pub AreDifferent : List (List Cell) → Type 0
AreDifferent keys = AllPairs (λ a b. a ≢ b) keys

-- the different keys, by where each stands first
abbrev pub distinct_keys : List (List Cell) → List (List Cell)
distinct_keys = firsts is_key

-- the rows that have these cells in the fields
abbrev pub part_of : List (List ℕ) → List Cell → List Datum → List Datum
part_of fields key rows = filter (λ row. is_key (key_of fields row) key) rows

-- the place of a key among those of copies; past them all where it isn't there
abbrev pub home_among : List (List Cell) → List Cell → ℕ
home_among copies key = unwrap_or (position_from (λ other. is_key other key) 0 copies) (length copies)

-- the places, counted from i, of the rows that belong to the copy at a place
abbrev pub members_from : ℕ → ℕ → List ℕ → List ℕ
members_from copy i [] = []
members_from copy i (home ∷ homes) = if home == copy then i ∷ members_from copy (i + 1) homes else members_from copy (i + 1) homes

-- ---- the cells of one field

-- the cells of rows in a field
abbrev pub cells_in : List ℕ → List Datum → List Cell
cells_in field rows = map (λ (row : Datum). row.cell field) rows

-- the same, each with the cell of its row in another field
abbrev pub pairs_in : List ℕ → List ℕ → List Datum → List (Cell × Cell)
pairs_in field other rows = map (λ (row : Datum). (row.cell field, row.cell other)) rows

-- what stands beside a cell where it stands first
abbrev pub first_beside : List (Cell × Cell) → Cell → Cell
first_beside pairs cell = unwrap_or (option_map (λ (pair : Cell × Cell). pair.1) (find (λ (pair : Cell × Cell). same_cells pair.0 cell) pairs)) Null

-- how two cells stand by what each has beside it, in a direction; cells with the same beside them stand ascending
abbrev pub by_beside : Bool → (Cell → Cell) → Cell → Cell → Ordering
by_beside descending beside a b =
    ordering_then (if descending then cell_cmp (beside b) (beside a) else cell_cmp (beside a) (beside b)) (cell_cmp a b)

-- the different cells among pairs, by what the first row with each has beside it
abbrev pub by_firsts : Bool → List (Cell × Cell) → List Cell
by_firsts descending pairs = ascending (by_beside descending (first_beside pairs)) (map (λ (pair : Cell × Cell). pair.0) pairs)

-- The different cells of a field: as an entry of an order says, by what the first row with the cell has in the entry's field; without an
-- entry by their first rows.
abbrev pub cells_of_field : List Datum → Option SortBy → List ℕ → List Cell
cells_of_field rows None field = firsts same_cells (cells_in field rows)
cells_of_field rows (Some s) field = by_firsts s.descending (pairs_in field s.field rows)

-- ---- the cells of copies

-- every choice of one cell of each list, the first list outermost
abbrev pub choices : List (List Cell) → List (List Cell)
choices [] = [] ∷ []
choices (cells ∷ others) = flat_map (λ cell. map (λ rest. cell ∷ rest) (choices others)) cells

-- the place of the first cell that is this one; past them all where none is
abbrev pub place_among : List Cell → Cell → ℕ
place_among cells cell = unwrap_or (position_from (λ other. same_cells other cell) 0 cells) (length cells)

-- where each cell of a key stands among those of its field
abbrev pub places_among : List (List Cell) → List Cell → List ℕ
places_among fields key = map (λ (field : ℕ × List Cell). place_among field.1 (unwrap_or (slice_get key field.0) Null)) (enumerate_from 0 fields)

-- how two keys stand: by where their cells stand among those of the first field, then of the next; keys that stand alike there by their
-- own cells
abbrev pub by_places : List (List Cell) → List Cell → List Cell → Ordering
by_places fields a b = ordering_then (slice_cmp nat_cmp (places_among fields a) (places_among fields b)) (slice_cmp cell_cmp a b)

-- the cells of each field: entry i of an order is for those of field i
abbrev pub cells_of_fields : DividedBy → List Datum → List (List Cell)
cells_of_fields d rows =
    map (λ (field : ℕ × List ℕ). cells_of_field rows (slice_get (unwrap_or d.sort []) field.0) field.1) (enumerate_from 0 d.fields)

-- the different cells that rows have in all fields: with an order by the cells of the first field, then by those of the next, and without
-- one by their first rows
abbrev pub cells_of_rows : DividedBy → List Datum → List (List Cell)
cells_of_rows d rows =
    let keys = map (key_of d.fields) rows in
    if is_some d.sort then ascending (by_places (cells_of_fields d rows)) keys else distinct_keys keys

-- the cells of the copies: where fields are crossed, every choice of their cells, and else those that rows have
abbrev pub cells_of_copies : DividedBy → List Datum → List (List Cell)
cells_of_copies d rows = if d.crosses then choices (cells_of_fields d rows) else cells_of_rows d rows

-- the cells of the copies that have rows: where fields are crossed, the different cells that rows have, by their first rows
abbrev pub cells_with_rows : DividedBy → List Datum → List (List Cell)
cells_with_rows d rows = if d.crosses then distinct_keys (map (key_of d.fields) rows) else cells_of_rows d rows

-- how many copies have no rows
abbrev pub count_without_rows : DividedBy → List Datum → ℕ
count_without_rows d rows = length (cells_of_copies d rows) - length (cells_with_rows d rows)

-- The rules at work.

-- a row with cells in `a`, `b` and `v`
abbrev pub a_row : ℕ → Cell → Cell → Cell → Datum
a_row id a b v = record {
  key = record { id = id; branch = 0 };
  cell = λ name. if bytes_eq name (codes "a") then a else (if bytes_eq name (codes "b") then b else (if bytes_eq name (codes "v") then v else Null));
}

abbrev x : Cell
x = Text (codes "x")

abbrev y : Cell
y = Text (codes "y")

abbrev z : Cell
z = Text (codes "z")

abbrev p : Cell
p = Text (codes "p")

abbrev q : Cell
q = Text (codes "q")

-- y with p, then x with q, then y with q, then z with p
abbrev pub four_rows : List Datum
four_rows = a_row 1 y p (Number (pos 5)) ∷ a_row 2 x q (Number (pos 7)) ∷ a_row 3 y q (Number (pos 1)) ∷ a_row 4 z p (Number (pos 5)) ∷ []

abbrev a_alone : List (List ℕ)
a_alone = codes "a" ∷ []

abbrev a_and_b : List (List ℕ)
a_and_b = codes "a" ∷ codes "b" ∷ []

-- the copies by these fields, by the greatest `v` first or without an order
abbrev ordered : List (List ℕ) → Bool → List (List Cell)
ordered fields crosses =
    cells_of_copies record { fields = fields; sort = Some (record { field = codes "v"; descending = true } ∷ []); crosses = crosses } four_rows

abbrev unordered : List (List ℕ) → Bool → List (List Cell)
unordered fields crosses = cells_of_copies record { fields = fields; sort = None; crosses = crosses } four_rows

copies_by_first_rows : unordered a_alone false ≡ (y ∷ []) ∷ (x ∷ []) ∷ (z ∷ []) ∷ []
copies_by_first_rows = refl

-- 7 before 5, and of the two with 5 the lesser cell first: y has its first row's
copies_by_an_order : ordered a_alone false ≡ (x ∷ []) ∷ (y ∷ []) ∷ (z ∷ []) ∷ []
copies_by_an_order = refl

pairs_that_are_there : unordered a_and_b false ≡ (y ∷ p ∷ []) ∷ (x ∷ q ∷ []) ∷ (y ∷ q ∷ []) ∷ (z ∷ p ∷ []) ∷ []
pairs_that_are_there = refl

-- by the first field's cells, then by the second's, which have no entry and stand by their first rows
pairs_by_an_order : ordered a_and_b false ≡ (x ∷ q ∷ []) ∷ (y ∷ p ∷ []) ∷ (y ∷ q ∷ []) ∷ (z ∷ p ∷ []) ∷ []
pairs_by_an_order = refl

every_pair : unordered a_and_b true ≡ (y ∷ p ∷ []) ∷ (y ∷ q ∷ []) ∷ (x ∷ p ∷ []) ∷ (x ∷ q ∷ []) ∷ (z ∷ p ∷ []) ∷ (z ∷ q ∷ []) ∷ []
every_pair = refl

-- y with p, x with q, y with q and z with p have rows; x with p and z with q have none
pairs_with_rows : (cells_with_rows record { fields = a_and_b; sort = None; crosses = true } four_rows ≡ unordered a_and_b false)
    × (count_without_rows record { fields = a_and_b; sort = None; crosses = true } four_rows ≡ 2)
    × (count_without_rows record { fields = a_and_b; sort = None; crosses = false } four_rows ≡ 0)
pairs_with_rows = (refl, refl, refl)

-- without fields there is one copy where there is a row
no_fields : (unordered [] false ≡ [] ∷ []) × (unordered [] true ≡ [] ∷ [])
    × (cells_of_copies record { fields = []; sort = None; crosses = false } [] ≡ [])
no_fields = (refl, refl, refl)

the_rows_of_a_part : map (λ (row : Datum). row.key.id) (part_of a_alone (y ∷ []) four_rows) ≡ 1 ∷ 3 ∷ []
the_rows_of_a_part = refl
