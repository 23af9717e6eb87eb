-- By what the cells of a scale, or of a facet's field, stand. A cell that is listed has the place of its first listing, counted from 1, and any other one
-- more than there are listed: each listed cell gives its place where it is the same, else false, and of a disjunction the first that counts stands for
-- the whole. In an order by rows a cell has what an operation gives over the rows that have it.
use Rattle.std.specs.Prelude.{◌≡◌, refl, ℕ, ◌+◌, nat_le, nat_lt, Bool, true, false, pos, Some, List, [], ◌∷◌, map, length, codes, if◌then◌else◌}
use Rattle.std.specs.List.{enumerate_from}
use Rattle.case_table.specs.Names.{index_of, operations}
use Rattle.cell_value.specs.declared.cell.Cell.{Cell}
use Rattle.cell_value.specs.declared.cell.Cell.TheVariants as cell
use Rattle.expr_syntax.specs.declared.expr.BinOp.TheVariants.{Or, And, Same}
use Rattle.expr_syntax.specs.declared.expr.Expr.{Expr}
use Rattle.expr_syntax.specs.declared.expr.Expr.TheVariants as expr
use Rattle.plan_kit.specs.Joins.{joined, paired_times}
use Rattle.plan_kit.specs.Literals.{literal, whole}

-- ---- listed cells

-- the place of a listed cell where a cell is the same, else false
abbrev pub place_if : Expr → ℕ × Cell → Expr
place_if shown listed = expr.Binary And (expr.Binary Same shown (literal listed.1)) (whole (listed.0 + 1))

abbrev pub places_in : Expr → List Cell → List Expr
places_in shown cells = map (place_if shown) (enumerate_from 0 cells)

-- the place of a cell among listed ones
abbrev pub listed_rank : Expr → List Cell → Expr
listed_rank shown cells = expr.Binary Or (joined Or (expr.Flag false) (places_in shown cells)) (whole (length cells + 1))

-- ---- orders by rows

-- the codes of operations
abbrev pub sum_code : ℕ
sum_code = 4

abbrev pub min_code : ℕ
min_code = 7

abbrev pub max_code : ℕ
max_code = 8

-- what an operation gives over no rows: of those that count or sum up 0, else null
abbrev pub over_none : ℕ → Expr
over_none op = if nat_le op sum_code then expr.Number (pos 0) else expr.Null

-- Whether an operation counts, which is never out of range. Then a list has one row for each cell with what it gives, and the scale's operation is the
-- greatest of these; any other passes over what `over_none` gives.
abbrev pub counts : ℕ → Bool
counts op = nat_lt op sum_code

abbrev pub op_of_scale : ℕ → ℕ
op_of_scale op = if counts op then max_code else op

-- The rules at work.

operations_that_count : map (index_of operations) (codes "count" ∷ codes "valid" ∷ codes "missing" ∷ codes "distinct" ∷ codes "sum" ∷ [])
    ≡ Some 0 ∷ Some 1 ∷ Some 2 ∷ Some 3 ∷ Some sum_code ∷ []
operations_that_count = refl

least_and_greatest : map (index_of operations) (codes "min" ∷ codes "max" ∷ []) ≡ Some min_code ∷ Some max_code ∷ []
least_and_greatest = refl

operations_of_scales : (map counts (0 ∷ 3 ∷ sum_code ∷ []) ≡ true ∷ true ∷ false ∷ []) × (map op_of_scale (0 ∷ sum_code ∷ []) ≡ max_code ∷ sum_code ∷ [])
operations_of_scales = (refl, refl)

one_listed_cell : (shown : Expr) → listed_rank shown (cell.Text (codes "u") ∷ [])
    ≡ expr.Binary Or (expr.Binary And (expr.Binary Same shown (expr.Text (codes "u"))) (whole 1)) (whole 2)
unfolding joined paired_times
one_listed_cell shown = refl

no_listed_cell : (shown : Expr) → listed_rank shown [] ≡ expr.Binary Or (expr.Flag false) (whole 1)
unfolding joined paired_times
no_listed_cell shown = refl
