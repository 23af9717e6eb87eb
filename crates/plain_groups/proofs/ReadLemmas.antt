-- What is read of the rows of groups.
use Rattle.std.proofs.Common.{◌≡◌, ℕ, Bool, true, false, cond, List, [], ◌∷◌, ◌++◌, map, fold, Option, Some, None, unwrap_or, if◌then◌else◌}
use Rattle.std.proofs.Common.{bytes_eq, pos, ◌*◌, ◌||◌, refl, sym, ap, ap₂, ◌∙◌}
use Rattle.std.specs.Option.{option_map}
use Rattle.std.specs.List.{list_any}
use Rattle.std.specs.Ordering.{nat_cmp}
use Rattle.std.specs.Cmp.Lexicographic.{slice_cmp}
use Rattle.std.specs.FinMap as finite
use Rattle.fixed_num.specs.Number.{million}
use Rattle.fixed_num.specs.Ranges.{all_found}
use Rattle.cell_value.specs.declared.cell.Cell.{Cell}
use Rattle.cell_value.specs.declared.cell.Cell.TheVariants.{Null, Number}
use Rattle.cell_value.specs.declared.state.Key.{Key}
use Rattle.cell_value.specs.declared.state.Keyed.{Keyed}
use Rattle.cell_value.specs.Row.{Cells}
use Rattle.cell_value.specs.Datum.{Datum, datum_of, cell_at, id_name}
use Rattle.plain_rows.specs.declared.transforms.OpOf.{OpOf}
use Rattle.plain_rows.specs.declared.transforms.GroupOf.{GroupOf}
use Rattle.plain_rows.specs.Lookups.{with_cells, data_with_cells}
use Rattle.plain_rows.proofs.Lists.{seen_twice, filter_seen, all_seen}
use Rattle.plain_rows.proofs.LookupLemmas.{reads_cells}
use Rattle.plain_groups.specs.Groups.{firsts_behind, firsts, alike, group_of}
use Rattle.plain_groups.specs.Aggregates.{aggregate_of}
use Rattle.plain_groups.specs.GroupRows.{read_by, op_cells, field_cells, group_row, aggregated, bare_datum, data_group_row, data_aggregated}
use Rattle.plain_groups.specs.GroupRows.{join_aggregated, data_join_aggregated}

abbrev cells_of : Datum → List ℕ → Cell
cells_of datum = datum.cell

any_seen : {X Y : Type 0} (see : X → Y) (p : Y → Bool) (xs : List X) → list_any p (map see xs) ≡ list_any (λ x. p (see x)) xs
any_seen see p [] = refl
any_seen see p (x ∷ xs) = ap (λ b. p (see x) || b) (any_seen see p xs)

map_push : {X Y : Type 0} (see : X → Y) (xs : List X) (x : X) → map see (xs ++ x ∷ []) ≡ map see xs ++ see x ∷ []
map_push see [] x = refl
map_push see (y ∷ ys) x = ap (λ l. see y ∷ l) (map_push see ys x)

firsts_seen : {X Y : Type 0} (see : X → Y) (like : Y → Y → Bool) (before xs : List X)
    → firsts_behind like (map see before) (map see xs) ≡ map see (firsts_behind (λ x y. like (see x) (see y)) before xs)
firsts_seen see like before [] = refl
firsts_seen {X} {Y} see like before (x ∷ xs) =
    ap (λ l. cond (list_any (λ y. like y (see x)) (map see before)) (firsts_behind like l (map see xs)) (see x ∷ firsts_behind like l (map see xs)))
    (sym (map_push see before x))
    ∙ ap₂ (λ b l. cond b l (see x ∷ l)) (any_seen see (λ y. like y (see x)) before) (firsts_seen see like (before ++ x ∷ []) xs)
    ∙ either (list_any (λ y. like (see y) (see x)) before) (firsts_behind (λ x y. like (see x) (see y)) (before ++ x ∷ []) xs)
  where
    either : (b : Bool) (l : List X) → cond b (map see l) (see x ∷ map see l) ≡ map see (cond b l (x ∷ l))
    either true l = refl
    either false l = refl

pub op_cells_seen : (ops : List OpOf) (group : List Keyed) → op_cells cells_of ops (map datum_of group) ≡ op_cells cell_at ops group
op_cells_seen ops group = λ k. all_found (map
    (λ (op : OpOf). option_map (λ cell. (op.out, cell)) (aggregate_of op.op (seen_twice (λ (row : Datum). read_by op row.cell) datum_of group k))) ops)

with_all : (key : Key) (row : Cells) (cells : List (List ℕ × Cell)) → with_cells (record { key = key; row = row }) cells
    ≡ record { key = key; row = fold (λ row entry. finite.insert row entry.0 entry.1) row cells }
with_all key row [] = refl
with_all key row (cell ∷ cells) = with_all key (finite.insert row cell.0 cell.1) cells

bare : (key : Key) → bare_datum key ≡ datum_of (record { key = key; row = finite.empty })
bare key = λ k. record {
  key = key;
  cell = λ name. if bytes_eq name id_name then Number (pos (key.id * million)) else unwrap_or (sym (finite.get-empty (slice_cmp nat_cmp) name) k) Null;
}

row_reads : (g : GroupOf) (first : Keyed) (given : List (List ℕ × Cell)) → data_group_row g (datum_of first) given ≡ datum_of (group_row g first given)
row_reads g first given =
    let cells : List (List ℕ × Cell) = field_cells (cell_at first) g.groupby ++ given in
    ap (λ datum. data_with_cells datum cells) (bare first.key)
    ∙ sym (reads_cells cells (record { key = first.key; row = finite.empty }))
    ∙ ap datum_of (with_all first.key finite.empty cells)

mapped : {A B C : Type 0} (f : A → C) (h : A → B) (see : B → C) (same : (a : A) → f a ≡ see (h a)) (o : Option A)
    → option_map f o ≡ option_map see (option_map h o)
mapped f h see same None = refl
mapped f h see same (Some a) = ap Some (same a)

-- what operations give over the group of a row as it is read
pub group_reads : (g : GroupOf) (rows : List Keyed) (row : Keyed)
    → op_cells cells_of g.ops (group_of cells_of g.groupby (map datum_of rows) (datum_of row)) ≡ op_cells cell_at g.ops (group_of cell_at g.groupby rows row)
group_reads g rows row =
    ap (op_cells cells_of g.ops) (filter_seen (alike cells_of g.groupby (datum_of row)) datum_of rows)
    ∙ op_cells_seen g.ops (group_of cell_at g.groupby rows row)

same_given : (g : GroupOf) (rows : List Keyed) (first : Keyed)
    → option_map (data_group_row g (datum_of first)) (op_cells cells_of g.ops (group_of cells_of g.groupby (map datum_of rows) (datum_of first)))
    ≡ option_map datum_of (option_map (group_row g first) (op_cells cell_at g.ops (group_of cell_at g.groupby rows first)))
same_given g rows first =
    ap (option_map (data_group_row g (datum_of first))) (group_reads g rows first)
    ∙ mapped (data_group_row g (datum_of first)) (group_row g first) datum_of
    (row_reads g first) (op_cells cell_at g.ops (group_of cell_at g.groupby rows first))

pub aggregated_reads : (g : GroupOf) (rows : List Keyed) → data_aggregated g (map datum_of rows) ≡ option_map (map datum_of) (aggregated g rows)
aggregated_reads g rows =
    let given : Datum → Option Datum =
    λ first. option_map (data_group_row g first) (op_cells cells_of g.ops (group_of cells_of g.groupby (map datum_of rows) first)) in
    ap (λ l. all_found (map given l)) (firsts_seen datum_of (alike cells_of g.groupby) [] rows)
    ∙ all_seen datum_of datum_of (λ first. option_map (group_row g first) (op_cells cell_at g.ops (group_of cell_at g.groupby rows first)))
    given (same_given g rows) (firsts (alike cell_at g.groupby) rows)

pub join_reads : (g : GroupOf) (rows : List Keyed) → data_join_aggregated g (map datum_of rows) ≡ option_map (map datum_of) (join_aggregated g rows)
join_reads g rows =
    all_seen datum_of datum_of (λ row. option_map (with_cells row) (op_cells cell_at g.ops (group_of cell_at g.groupby rows row)))
    (λ row. option_map (data_with_cells row) (op_cells cells_of g.ops (group_of cells_of g.groupby (map datum_of rows) row)))
    (λ row. ap (option_map (data_with_cells (datum_of row))) (group_reads g rows row)
    ∙ mapped (data_with_cells (datum_of row)) (with_cells row) datum_of
    (λ cells. sym (reads_cells cells row)) (op_cells cell_at g.ops (group_of cell_at g.groupby rows row)))
    rows
