-- By what the panels of a facet stand. The cells of a field stand ascending or descending by themselves, and for any other order by keys: in lists of keys,
-- one for each unit, each row has beside its cells the key of the cell, by which these lists stand first. Where a field keeps the order of its first rows
-- before one that has an order, its key is the number of the unit and that of the row. A listed cell has its rank as its key. Where an order is by rows,
-- what its operation gives of each cell that the units' rows have is one list, and is looked up.
use Rattle.std.specs.Prelude.{◌≡◌, refl, ℕ, Bool, true, false, Option, None, List, [], ◌∷◌, ◌++◌, map, flat_map, codes, if◌then◌else◌}
use Rattle.std.specs.List.{enumerate_from, list_any}
use Rattle.std.specs.Option.{option_map_or}
use Rattle.cell_value.specs.declared.cell.Cell.TheVariants as cell
use Rattle.expr_syntax.specs.declared.expr.BinOp.TheVariants.{Or, Same}
use Rattle.expr_syntax.specs.declared.expr.Expr.{Expr}
use Rattle.expr_syntax.specs.declared.expr.Expr.TheVariants as expr
use Rattle.plain_rows.specs.declared.transforms.SortBy.{SortBy}
use Rattle.vega_spec.specs.declared.data.DataSet.{DataSet}
use Rattle.vega_spec.specs.declared.groupings.Aggregate.{Aggregate}
use Rattle.vega_spec.specs.declared.groupings.Lookup.{Lookup}
use Rattle.vega_spec.specs.declared.orders.Sort.{Sort}
use Rattle.vega_spec.specs.declared.transforms.Transform.{Transform}
use Rattle.vega_spec.specs.declared.transforms.Transform.TheVariants as vega
use Rattle.plan_kit.specs.Joins.{joined, paired_times}
use Rattle.plan_kit.specs.Literals.{whole}
use Rattle.plan_kit.specs.declared.grids.FacetField.{FacetField}
use Rattle.plan_kit.specs.declared.grids.FacetPlan.{FacetPlan}
use Rattle.plan_kit.specs.declared.grids.GridPlan.{GridPlan}
use Rattle.plan_kit.specs.declared.orders.CellOrder.{CellOrder}
use Rattle.plan_kit.specs.declared.orders.CellOrder.TheVariants as stands
use Rattle.plan_kit.specs.declared.orders.RowsOrder.{RowsOrder}
use Rattle.vega_assemble.specs.Lists.{order_begins}
use Rattle.vega_assemble.specs.Names.{unit_name, begun_name, keys_name, key_column, orders_name, rank_column}
use Rattle.vega_assemble.specs.Ranked.{formula, numbers_rows, given_in, found_in}
use Rattle.vega_assemble.specs.Ranks.{listed_rank}
use Rattle.vega_assemble.specs.Sources.{list_made}
use Rattle.vega_assemble.specs.Steps.{sort_written}

-- ---- orders of fields

-- whether cells stand as they first appear
abbrev pub is_first : CellOrder → Bool
is_first stands.First = true
is_first stands.Up = false
is_first stands.Down = false
is_first (stands.Listed cells) = false
is_first (stands.ByRows by) = false

-- the fields of which an order speaks: all up to the last that has one
abbrev pub and_before : FacetField → List FacetField → List FacetField
and_before field [] = if is_first field.order then [] else field ∷ []
and_before field (next ∷ behind) = field ∷ next ∷ behind

abbrev pub ordered : List FacetField → List FacetField
ordered [] = []
ordered (field ∷ fields) = and_before field (ordered fields)

-- the field by which the cells of a field stand, and whether descending
abbrev pub by_name : List ℕ → Bool → SortBy
by_name name descending = record { field = name; descending = descending }

abbrev pub stands_by : List ℕ → List ℕ → CellOrder → SortBy
stands_by key name stands.First = by_name key false
stands_by key name stands.Up = by_name name false
stands_by key name stands.Down = by_name name true
stands_by key name (stands.Listed cells) = by_name key false
stands_by key name (stands.ByRows by) = by_name key by.descending

abbrev pub entry_of : List ℕ → ℕ × FacetField → SortBy
entry_of stem field = stands_by (key_column stem field.0) field.1.name field.1.order

-- these, each with its place
abbrev pub placed : List FacetField → List (ℕ × FacetField)
placed fields = enumerate_from 0 (ordered fields)

-- the order of the copies, if it is one
abbrev pub sort_of : List ℕ → List FacetField → Option Sort
sort_of stem fields = sort_written (map (entry_of stem) (placed fields))

-- ---- keys

-- whether a field has keys
abbrev pub wants_key : CellOrder → Bool
wants_key stands.First = true
wants_key stands.Up = false
wants_key stands.Down = false
wants_key (stands.Listed cells) = true
wants_key (stands.ByRows by) = true

abbrev pub has_keys : List FacetField → Bool
has_keys fields = list_any (λ (field : FacetField). wants_key field.order) (ordered fields)

-- the number of a unit with that of its row
abbrev pub place_of_row : ℕ → List ℕ → Expr
place_of_row unit name = expr.Pair (whole unit) (expr.Field name)

-- what the cells of a field have by rows, looked up under its name
abbrev pub looked_up : List ℕ → ℕ → ℕ → List ℕ → RowsOrder → Lookup
looked_up stem facet place name by =
    found_in (orders_name stem facet place) by.cell name (rank_column stem) (key_column stem place) cell.Null

-- the keys of a field in the rows of a unit
abbrev pub field_keys : List ℕ → ℕ → ℕ → ℕ → List ℕ → CellOrder → List Transform
field_keys stem facet unit place name stands.First =
    vega.Window (numbers_rows (key_column stem place)) ∷ formula (key_column stem place) (place_of_row unit (key_column stem place)) ∷ []
field_keys stem facet unit place name stands.Up = []
field_keys stem facet unit place name stands.Down = []
field_keys stem facet unit place name (stands.Listed cells) = formula (key_column stem place) (listed_rank (expr.Field name) cells) ∷ []
field_keys stem facet unit place name (stands.ByRows by) = vega.Lookup (looked_up stem facet place name by) ∷ []

abbrev pub steps_for : List ℕ → ℕ → ℕ → ℕ × FacetField → List Transform
steps_for stem facet unit field = field_keys stem facet unit field.0 field.1.name field.1.order

-- the list of keys of a unit's rows
abbrev pub keys_list : List ℕ → ℕ → List FacetField → ℕ → DataSet
keys_list stem facet fields unit =
    list_made (keys_name stem facet unit) (unit_name stem unit) (flat_map (steps_for stem facet unit) (placed fields))

-- The cell of a row looked up under a field's name in the rows of a unit, twice. Where these have it, both find it; else one stands for nothing as null, and
-- the other as true: so what they give is the same just where it is found.
abbrev pub looked_twice : List ℕ → ℕ → List ℕ → List ℕ → ℕ → List Transform
looked_twice stem facet name here unit =
    vega.Lookup (found_in (unit_name stem unit) name here name (unit_name stem unit) cell.Null)
    ∷ vega.Lookup (found_in (unit_name stem unit) name here name (keys_name stem facet unit) (cell.Flag true)) ∷ []

abbrev pub is_found : List ℕ → ℕ → ℕ → Expr
is_found stem facet unit = expr.Binary Same (expr.Field (unit_name stem unit)) (expr.Field (keys_name stem facet unit))

abbrev pub found_somewhere : List ℕ → ℕ → List ℕ → Expr
found_somewhere stem facet units = joined Or (expr.Flag false) (map (is_found stem facet) units)

-- what an operation gives of each cell over the rows of all panels
abbrev pub given_by : List ℕ → RowsOrder → Aggregate
given_by stem by = given_in (by.cell ∷ []) by (rank_column stem)

-- the same of the cells alone that the rows of these units have under the field's name
abbrev pub orders_steps : List ℕ → ℕ → List ℕ → List ℕ → RowsOrder → List Transform
orders_steps stem facet units name by =
    flat_map (looked_twice stem facet name by.cell) units
    ++ vega.Filter (record { expr = found_somewhere stem facet units }) ∷ vega.Aggregate (given_by stem by) ∷ []

abbrev pub orders_list : List ℕ → ℕ → List ℕ → ℕ → List ℕ → RowsOrder → DataSet
orders_list stem facet units place name by =
    list_made (orders_name stem facet place) (begun_name stem by.unit) (orders_steps stem facet units name by)

abbrev pub orders_if : List ℕ → ℕ → List ℕ → ℕ → List ℕ → CellOrder → List DataSet
orders_if stem facet units place name stands.First = []
orders_if stem facet units place name stands.Up = []
orders_if stem facet units place name stands.Down = []
orders_if stem facet units place name (stands.Listed cells) = []
orders_if stem facet units place name (stands.ByRows by) = orders_list stem facet units place name by ∷ []

abbrev pub orders_for : List ℕ → ℕ → List ℕ → ℕ × FacetField → List DataSet
orders_for stem facet units field = orders_if stem facet units field.0 field.1.name field.1.order

-- all lists of a facet's keys
abbrev pub lists_with_keys : List ℕ → ℕ → List FacetField → List ℕ → List DataSet
lists_with_keys stem facet fields units =
    flat_map (orders_for stem facet units) (placed fields) ++ map (keys_list stem facet fields) units

abbrev pub lists_of_facet : List ℕ → ℕ → FacetPlan → List DataSet
lists_of_facet stem number f = if has_keys f.fields then lists_with_keys stem number f.fields f.units else []

abbrev pub lists_of_grid : List ℕ → GridPlan → List DataSet
lists_of_grid stem grid = option_map_or (lists_of_facet stem grid.number) grid.facet []

-- whether the order of a field reads the rows of a unit before its aggregate
abbrev pub field_begins : ℕ → FacetField → Bool
field_begins unit field = order_begins unit field.order

abbrev pub facet_begins : ℕ → FacetPlan → Bool
facet_begins unit f = list_any (field_begins unit) f.fields

abbrev pub grid_begins : ℕ → GridPlan → Bool
grid_begins unit grid = option_map_or (facet_begins unit) grid.facet false

-- The rules at work.

abbrev a_field : CellOrder → FacetField
a_field by = record { name = codes "c"; order = by; is_beside = false; labels = true }

orders_of_copies : (sort_of [] (a_field stands.First ∷ []) ≡ None)
    × (sort_of [] (a_field stands.Down ∷ []) ≡ sort_written (by_name (codes "c") true ∷ []))
    × (sort_of [] (a_field stands.First ∷ a_field stands.Up ∷ [])
    ≡ sort_written (by_name (key_column [] 0) false ∷ by_name (codes "c") false ∷ []))
    × (sort_of [] (a_field stands.Up ∷ a_field stands.First ∷ []) ≡ sort_written (by_name (codes "c") false ∷ []))
orders_of_copies = (refl, refl, refl, refl)

fields_with_keys : (has_keys (a_field stands.First ∷ []) ≡ false) × (has_keys (a_field stands.First ∷ a_field stands.Up ∷ []) ≡ true)
    × (has_keys (a_field (stands.Listed []) ∷ []) ≡ true)
fields_with_keys = (refl, refl, refl)

a_cell_of_two_units : found_somewhere [] 7 (2 ∷ 3 ∷ []) ≡ expr.Binary Or (is_found [] 7 2) (is_found [] 7 3)
unfolding joined paired_times
a_cell_of_two_units = refl
