-- The rows by which the cells of a scale stand in an order by rows. They are a list behind those of the scale's columns: the rows before the aggregate whose
-- cell one of these has, each with the order's field as its rank, or of an operation that counts one row for each cell with what it gives. In panels each
-- row has a key: the numbers that the cells of the facets' fields have, and that of the cell, as one text; and a list has a row's cell where it has its key.
use Rattle.std.specs.Prelude.{◌≡◌, refl, ℕ, Bool, true, false, Some, None, List, [], ◌∷◌, ◌++◌, map, length, codes, if◌then◌else◌}
use Rattle.std.specs.List.{enumerate_from, fold}
use Rattle.case_table.specs.Names.{index_of, operations}
use Rattle.cell_value.specs.declared.cell.Cell.{Cell}
use Rattle.cell_value.specs.declared.cell.Cell.TheVariants as cell
use Rattle.expr_syntax.specs.declared.expr.BinOp.TheVariants.{Add, And}
use Rattle.expr_syntax.specs.declared.expr.Expr.{Expr}
use Rattle.expr_syntax.specs.declared.expr.Expr.TheVariants as expr
use Rattle.vega_spec.specs.declared.data.DataSet.{DataSet}
use Rattle.vega_spec.specs.declared.groupings.Aggregate.{Aggregate}
use Rattle.vega_spec.specs.declared.groupings.Lookup.{Lookup}
use Rattle.vega_spec.specs.declared.groupings.Window.{Window}
use Rattle.vega_spec.specs.declared.transforms.Transform.{Transform}
use Rattle.vega_spec.specs.declared.transforms.Transform.TheVariants as vega
use Rattle.plan_kit.specs.Joins.{joined, paired_times}
use Rattle.plan_kit.specs.declared.cells.CellOf.{CellOf}
use Rattle.plan_kit.specs.declared.cells.CellOf.TheVariants as shows
use Rattle.plan_kit.specs.declared.orders.RowsOrder.{RowsOrder}
use Rattle.vega_assemble.specs.Cells.{cell_expr, field_expr}
use Rattle.vega_assemble.specs.Names.{begun_name, ranks_name, codes_name, cell_column, rank_column, key_column}
use Rattle.vega_assemble.specs.Ranks.{over_none, counts, sum_code}
use Rattle.vega_assemble.specs.Sources.{list_made}

-- ---- steps

abbrev pub formula : List ℕ → Expr → Transform
formula name e = vega.Formula record { expr = e; as_ = name }

-- a cell of each row, and its rank
abbrev pub cell_formula : List ℕ → CellOf → Transform
cell_formula stem c = formula (cell_column stem) (cell_expr c)

abbrev pub rank_formula : List ℕ → Expr → Transform
rank_formula stem e = formula (rank_column stem) e

-- the code of `row_number`
abbrev pub row_number_code : ℕ
row_number_code = 12

-- the number of each row under a name
abbrev pub numbers_rows : List ℕ → Window
numbers_rows name = record {
  ops = row_number_code ∷ [];
  fields = Some (None ∷ []);
  params = None;
  as_ = Some (Some name ∷ []);
  groupby = None;
  sort = None;
  frame = None;
  ignore_peers = None;
}

-- what the operation of an order gives in each group by these fields, under a name
abbrev pub given_in : List (List ℕ) → RowsOrder → List ℕ → Aggregate
given_in fields by name = record {
  groupby = Some fields;
  ops = Some (by.op ∷ []);
  fields = Some (by.field ∷ []);
  as_ = Some (Some name ∷ []);
}

-- the distinct cells of a field
abbrev pub cells_alone : List ℕ → Aggregate
cells_alone name = record { groupby = Some (name ∷ []); ops = Some []; fields = Some []; as_ = Some [] }

-- what another list has in a column where its cell in a field there is that in a field here, under a name
abbrev pub found_in : List ℕ → List ℕ → List ℕ → List ℕ → List ℕ → Cell → Lookup
found_in set there here column name otherwise = record {
  from = set;
  key = there;
  fields = here ∷ [];
  values = column ∷ [];
  as_ = Some (name ∷ []);
  default = Some otherwise;
}

-- ---- keys

-- the fields that tell rows apart: those of the facets, and the cell
abbrev pub told_by : List ℕ → List (List ℕ) → List (List ℕ)
told_by stem facets = facets ++ cell_column stem ∷ []

-- the number of the cell of a field, looked up
abbrev pub number_found : List ℕ → ℕ → ℕ × List ℕ → Transform
number_found stem scale field =
    vega.Lookup (found_in (codes_name stem scale field.0) field.1 field.1 (key_column stem field.0) (key_column stem field.0) cell.Null)

-- a text with the number of the field at a place behind it
abbrev pub with_code : List ℕ → Expr → ℕ → Expr
with_code stem e place = expr.Binary Add (expr.Binary Add e (expr.Field (key_column stem place))) (expr.Text (codes ","))

abbrev pub with_number : List ℕ → Expr → ℕ × List ℕ → Expr
with_number stem e field = with_code stem e field.0

abbrev pub numbers_text : List ℕ → List (List ℕ) → Expr
numbers_text stem fields = fold (with_number stem) (expr.Text []) (enumerate_from 0 fields)

-- the key of a row, behind the numbers of which it is made
abbrev pub steps_to_key : List ℕ → ℕ → List (List ℕ) → List Transform
steps_to_key stem scale fields =
    map (number_found stem scale) (enumerate_from 0 fields) ++ formula (key_column stem (length fields)) (numbers_text stem fields) ∷ []

-- whether there are facets; without one the cell itself is the key
abbrev pub are_some : List (List ℕ) → Bool
are_some [] = false
are_some (facet ∷ facets) = true

abbrev pub key_steps : List ℕ → ℕ → List (List ℕ) → List Transform
key_steps stem scale facets = if are_some facets then steps_to_key stem scale (told_by stem facets) else []

abbrev pub key_name : List ℕ → List (List ℕ) → List ℕ
key_name stem facets = if are_some facets then key_column stem (length (told_by stem facets)) else cell_column stem

-- ---- lists

-- the cells of a field in the rows before the aggregate, each with its number
abbrev pub codes_list : List ℕ → ℕ → RowsOrder → ℕ × List ℕ → DataSet
codes_list stem scale by field =
    list_made (codes_name stem scale field.0) (begun_name stem by.unit)
    (cell_formula stem (shows.Field by.cell) ∷ vega.Aggregate (cells_alone field.1) ∷ vega.Window (numbers_rows (key_column stem field.0)) ∷ [])

abbrev pub codes_lists : List ℕ → ℕ → List (List ℕ) → RowsOrder → List DataSet
codes_lists stem scale facets by =
    if are_some facets then map (codes_list stem scale by) (enumerate_from 0 (told_by stem facets)) else []

-- behind the cell of a column: what the operation gives over no rows, and the key
abbrev pub column_steps : List ℕ → ℕ → List (List ℕ) → RowsOrder → List Transform
column_steps stem scale facets by = rank_formula stem (over_none by.op) ∷ key_steps stem scale facets

-- whether the list of a column lacks a row's key, under its own name: true, else what stands in the column of ranks there, which is 0 or null
abbrev pub lacks_key : List ℕ → List ℕ → List ℕ → Transform
lacks_key stem key set = vega.Lookup (found_in set key key (rank_column stem) set (cell.Flag true))

-- the rows alone whose key not all of these lists lack
abbrev pub not_all : List (List ℕ) → Expr
not_all sets = expr.Not (joined And (expr.Flag true) (map expr.Field sets))

abbrev pub kept_in : List ℕ → List ℕ → List (List ℕ) → List Transform
kept_in stem key sets = map (lacks_key stem key) sets ++ vega.Filter (record { expr = not_all sets }) ∷ []

-- the ranks of rows: of an operation that counts what it gives of each cell, else the cell of the order's field, null without one
abbrev pub rank_step : List ℕ → List (List ℕ) → RowsOrder → Transform
rank_step stem facets by =
    if counts by.op then vega.Aggregate (given_in (told_by stem facets) by (rank_column stem))
    else rank_formula stem (field_expr by.field)

-- the rows before the aggregate whose key one of these lists has, with their ranks
abbrev pub ranks_steps : List ℕ → ℕ → List (List ℕ) → List (List ℕ) → RowsOrder → List Transform
ranks_steps stem scale facets sets by =
    cell_formula stem (shows.Field by.cell) ∷ key_steps stem scale facets ++ kept_in stem (key_name stem facets) sets
    ++ rank_step stem facets by ∷ []

abbrev pub ranks_list : List ℕ → ℕ → List (List ℕ) → List (List ℕ) → RowsOrder → DataSet
ranks_list stem scale facets sets by =
    list_made (ranks_name stem scale) (begun_name stem by.unit) (ranks_steps stem scale facets sets by)

-- The rules at work.

the_code_of_row_number : index_of operations (codes "row_number") ≡ Some row_number_code
the_code_of_row_number = refl

a_key_in_panels : numbers_text [] (told_by [] (codes "c" ∷ []))
    ≡ with_code [] (with_code [] (expr.Text []) 0) 1
a_key_in_panels = refl

-- sums of `v` of the cells of `a` before the aggregate of the unit 0, and how many rows have each
abbrev by_sums : RowsOrder
by_sums = record { unit = 0; cell = codes "a"; op = sum_code; field = Some (codes "v"); descending = true }

abbrev by_counts : RowsOrder
by_counts = record by_sums { op = 0; field = None }

-- outside facets the cell itself is looked up in the lists of two columns
rows_of_two_columns : ranks_steps [] 3 [] (codes "p" ∷ codes "q" ∷ []) by_sums
    ≡ formula (cell_column []) (expr.Field (codes "a"))
    ∷ lacks_key [] (cell_column []) (codes "p") ∷ lacks_key [] (cell_column []) (codes "q")
    ∷ vega.Filter (record { expr = expr.Not (expr.Binary And (expr.Field (codes "p")) (expr.Field (codes "q"))) })
    ∷ formula (rank_column []) (expr.Field (codes "v")) ∷ []
unfolding joined paired_times
rows_of_two_columns = refl

-- in panels rows are counted apart
numbers_of_rows : rank_step [] (codes "c" ∷ []) by_counts
    ≡ vega.Aggregate record {
      groupby = Some (codes "c" ∷ cell_column [] ∷ []);
      ops = Some (0 ∷ []);
      fields = Some (None ∷ []);
      as_ = Some (Some (rank_column []) ∷ []);
    }
numbers_of_rows = refl
