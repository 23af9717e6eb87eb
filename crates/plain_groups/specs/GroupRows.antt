-- The rows of groups, and rows with what their groups give.
use Rattle.std.specs.Prelude.{◌≡◌, refl, ℕ, ◌*◌, pos, true, Option, Some, None, List, [], ◌∷◌, ◌++◌, map, codes, if◌then◌else◌}
use Rattle.std.specs.Option.{option_map, option_map_or}
use Rattle.std.specs.Str.{bytes_eq}
use Rattle.fixed_num.specs.Number.{million}
use Rattle.fixed_num.specs.Ranges.{all_found}
use Rattle.cell_value.specs.declared.cell.Cell.{Cell}
use Rattle.cell_value.specs.declared.cell.Cell.TheVariants.{Null, Flag, Number}
use Rattle.cell_value.specs.declared.state.Key.{Key}
use Rattle.cell_value.specs.declared.state.Keyed.{Keyed}
use Rattle.cell_value.specs.Row.{row_of}
use Rattle.cell_value.specs.Datum.{CellAt, Datum, cell_at, datum_with, id_name}
use Rattle.plain_rows.specs.declared.transforms.OpOf.{OpOf}
use Rattle.plain_rows.specs.declared.transforms.GroupOf.{GroupOf}
use Rattle.plain_rows.specs.Lookups.{with_cells, data_with_cells}
use Rattle.plain_groups.specs.Groups.{alike, firsts, group_of}
use Rattle.plain_groups.specs.Aggregates.{aggregate_of, aggregates}

-- the cell of a row that an operation reads; null where it has no field
abbrev pub read_by : OpOf → CellAt → Cell
read_by op cells = option_map_or cells op.field Null

-- what an operation gives over a group, under its new name
abbrev pub op_cell : {X : Type 0} → (X → CellAt) → List X → OpOf → Option (List ℕ × Cell)
op_cell cells group op = option_map (λ cell. (op.out, cell)) (aggregate_of op.op (map (λ row. read_by op (cells row)) group))

-- what several operations give over a group; None where one of them overflows
abbrev pub op_cells : {X : Type 0} → (X → CellAt) → List OpOf → List X → Option (List (List ℕ × Cell))
op_cells cells ops group = all_found (map (op_cell cells group) ops)

-- the cells of a row in the fields
abbrev pub field_cells : CellAt → List (List ℕ) → List (List ℕ × Cell)
field_cells cells fields = map (λ field. (field, cells field)) fields

-- the row of a group: the key of its first row, the fields' cells, and then what the operations give, so that of equal names the last holds
abbrev pub group_row : GroupOf → Keyed → List (List ℕ × Cell) → Keyed
group_row g first given = record { key = first.key; row = row_of (field_cells (cell_at first) g.groupby ++ given) }

-- a row for each group, in the order of the groups' first rows; None where an operation overflows over one of the groups
abbrev pub aggregated : GroupOf → List Keyed → Option (List Keyed)
aggregated g rows = all_found (map
    (λ first. option_map (group_row g first) (op_cells cell_at g.ops (group_of cell_at g.groupby rows first)))
    (firsts (alike cell_at g.groupby) rows))

-- the rows, each with what the operations give over its group; None where an operation overflows over one of the groups
abbrev pub join_aggregated : GroupOf → List Keyed → Option (List Keyed)
join_aggregated g rows = all_found (map
    (λ row. option_map (with_cells row) (op_cells cell_at g.ops (group_of cell_at g.groupby rows row)))
    rows)

-- a row without cells, as it is read
abbrev pub bare_datum : Key → Datum
bare_datum key = record { key = key; cell = λ name. if bytes_eq name id_name then Number (pos (key.id * million)) else Null }

-- the same of rows as they are read
abbrev pub data_group_row : GroupOf → Datum → List (List ℕ × Cell) → Datum
data_group_row g first given = data_with_cells (bare_datum first.key) (field_cells first.cell g.groupby ++ given)

abbrev pub data_aggregated : GroupOf → List Datum → Option (List Datum)
data_aggregated g rows =
    let cells = λ (row : Datum). row.cell in
    all_found (map
    (λ (first : Datum). option_map (data_group_row g first) (op_cells cells g.ops (group_of cells g.groupby rows first)))
    (firsts (alike cells g.groupby) rows))

abbrev pub data_join_aggregated : GroupOf → List Datum → Option (List Datum)
data_join_aggregated g rows =
    let cells = λ (row : Datum). row.cell in
    all_found (map (λ row. option_map (data_with_cells row) (op_cells cells g.ops (group_of cells g.groupby rows row))) rows)

-- The rules at work.

-- three rows: the first and the last are a group
abbrev three_rows : List Datum
three_rows =
    datum_with (codes "a") (Flag true) (bare_datum (record { id = 4; branch = 0 }))
    ∷ bare_datum (record { id = 5; branch = 0 })
    ∷ datum_with (codes "a") (Flag true) (bare_datum (record { id = 6; branch = 1 })) ∷ []

-- how many rows there are with each cell in `a`
abbrev counts : GroupOf
counts = record { groupby = codes "a" ∷ []; ops = record { op = 0; field = None; out = codes "n" } ∷ [] }

-- what is read under three names
abbrev read : Datum → ℕ × Cell × Cell
read row = (row.key.id, row.cell (codes "a"), row.cell (codes "n"))

two_groups : option_map (map read) (data_aggregated counts three_rows)
    ≡ Some ((4, Flag true, Number (pos 2000000)) ∷ (5, Null, Number (pos 1000000)) ∷ [])
unfolding aggregates
two_groups = refl

three_rows_joined : option_map (map read) (data_join_aggregated counts three_rows)
    ≡ Some ((4, Flag true, Number (pos 2000000)) ∷ (5, Null, Number (pos 1000000)) ∷ (6, Flag true, Number (pos 2000000)) ∷ [])
unfolding aggregates
three_rows_joined = refl
