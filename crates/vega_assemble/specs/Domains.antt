-- The domains of scales. A given list stands as it is. Cells of rows are references to columns of lists, column after column: a field to the unit's own rows,
-- any other cell to a list of its own. On a discrete scale they stand in an order: ascending, descending, or as they first appear; in a listed order by the
-- ranks that such lists have; and in one by rows by what the operation gives over the ranks of rows, which one more list has.
use Rattle.std.specs.Prelude.{◌≡◌, refl, ℕ, Bool, true, Option, Some, None, List, [], ◌∷◌, ◌++◌, map, codes, if◌then◌else◌}
use Rattle.std.specs.List.{enumerate_from}
use Rattle.expr_syntax.specs.declared.expr.Expr.TheVariants as expr
use Rattle.vega_spec.specs.declared.domains.Domain.{Domain}
use Rattle.vega_spec.specs.declared.domains.Domain.TheVariants as domain
use Rattle.vega_spec.specs.declared.domains.DomainOrder.{DomainOrder}
use Rattle.vega_spec.specs.declared.domains.DomainOrder.TheVariants as order
use Rattle.vega_spec.specs.declared.domains.Reference.{Reference}
use Rattle.vega_spec.specs.declared.orders.Order.TheVariants.{Ascending, Descending}
use Rattle.plan_kit.specs.declared.cells.CellOf.{CellOf}
use Rattle.plan_kit.specs.declared.cells.CellOf.TheVariants as shows
use Rattle.plan_kit.specs.declared.columns.Column.{Column}
use Rattle.plan_kit.specs.declared.domains.DomainPlan.{DomainPlan}
use Rattle.plan_kit.specs.declared.domains.DomainPlan.TheVariants as plan
use Rattle.plan_kit.specs.declared.domains.RowCells.{RowCells}
use Rattle.plan_kit.specs.declared.orders.CellOrder.{CellOrder}
use Rattle.plan_kit.specs.declared.orders.CellOrder.TheVariants as stands
use Rattle.plan_kit.specs.declared.orders.RowsOrder.{RowsOrder}
use Rattle.vega_assemble.specs.Names.{unit_name, cells_name, ranks_name, cell_column, rank_column}
use Rattle.vega_assemble.specs.Ranks.{min_code, op_of_scale, sum_code}
use Rattle.vega_assemble.specs.Steps.{direction}

-- ---- references

abbrev pub reference : List ℕ → List ℕ → Reference
reference set field = record { data_ = set; field = field }

-- the reference of a column by its place: a field's in the rows of its unit, else the cell of a list of its own
abbrev pub column_referred : List ℕ → ℕ → ℕ → ℕ → CellOf → Reference
column_referred stem scale place unit (shows.Field name) = reference (unit_name stem unit) name
column_referred stem scale place unit (shows.Written c) = reference (cells_name stem scale place) (cell_column stem)
column_referred stem scale place unit (shows.Computed e) = reference (cells_name stem scale place) (cell_column stem)

abbrev pub plainly_referred : List ℕ → ℕ → ℕ × Column → Reference
plainly_referred stem scale column = column_referred stem scale column.0 column.1.unit column.1.cell

-- the same where each column has a list of its own
abbrev pub own_referred : List ℕ → ℕ → ℕ × Column → Reference
own_referred stem scale column = reference (cells_name stem scale column.0) (cell_column stem)

abbrev pub all_own : List ℕ → ℕ → List Column → List Reference
all_own stem scale columns = map (own_referred stem scale) (enumerate_from 0 columns)

-- and behind these the rows by which cells stand
abbrev pub ranks_referred : List ℕ → ℕ → Reference
ranks_referred stem scale = reference (ranks_name stem scale) (cell_column stem)

-- all references of columns in an order, column after column
abbrev pub referred : List ℕ → ℕ → CellOrder → List Column → List Reference
referred stem scale stands.First columns = map (plainly_referred stem scale) (enumerate_from 0 columns)
referred stem scale stands.Up columns = map (plainly_referred stem scale) (enumerate_from 0 columns)
referred stem scale stands.Down columns = map (plainly_referred stem scale) (enumerate_from 0 columns)
referred stem scale (stands.Listed cells) columns = all_own stem scale columns
referred stem scale (stands.ByRows by) columns = all_own stem scale columns ++ ranks_referred stem scale ∷ []

-- ---- orders

abbrev pub ranked_order : List ℕ → RowsOrder → DomainOrder
ranked_order stem by = order.Operation (Some (direction by.descending)) (op_of_scale by.op) (rank_column stem)

-- how cells stand, on a continuous scale not at all
abbrev pub order_written : List ℕ → CellOrder → Option DomainOrder
order_written stem stands.First = None
order_written stem stands.Up = Some order.True
order_written stem stands.Down = Some (order.Cells (Some Descending))
order_written stem (stands.Listed cells) = Some (order.Operation (Some Ascending) min_code (rank_column stem))
order_written stem (stands.ByRows by) = Some (ranked_order stem by)

abbrev pub if_discrete : Bool → Option DomainOrder → Option DomainOrder
if_discrete continuous sort = if continuous then None else sort

-- ---- domains

-- the domain of the scale of a number, continuous or not
abbrev pub rows_written : List ℕ → ℕ → Bool → RowCells → Domain
rows_written stem scale continuous of = domain.Fields record {
  fields = referred stem scale of.order of.columns;
  sort = if_discrete continuous (order_written stem of.order);
}

abbrev pub domain_written : List ℕ → ℕ → Bool → DomainPlan → Domain
domain_written stem scale continuous (plan.Cells cells) = domain.Cells cells
domain_written stem scale continuous (plan.Columns of) = rows_written stem scale continuous of

-- The rules at work.

-- a field of the unit 0, and a written cell
abbrev two_columns : List Column
two_columns = record { unit = 0; cell = shows.Field (codes "a") } ∷ record { unit = 0; cell = shows.Computed expr.Null } ∷ []

columns_of_two_kinds : referred [] 1 stands.Up two_columns
    ≡ reference (unit_name [] 0) (codes "a") ∷ reference (cells_name [] 1 1) (cell_column []) ∷ []
columns_of_two_kinds = refl

abbrev by_sums : RowsOrder
by_sums = record { unit = 0; cell = codes "a"; op = sum_code; field = Some (codes "v"); descending = true }

an_order_by_rows : (referred [] 1 (stands.ByRows by_sums) two_columns
    ≡ reference (cells_name [] 1 0) (cell_column []) ∷ reference (cells_name [] 1 1) (cell_column []) ∷ reference (ranks_name [] 1) (cell_column []) ∷ [])
    × (order_written [] (stands.ByRows by_sums) ≡ Some (order.Operation (Some Descending) sum_code (rank_column [])))
an_order_by_rows = (refl, refl)
