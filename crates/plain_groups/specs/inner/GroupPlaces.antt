-- The row of a group by the places of its rows.
use Rattle.std.specs.Prelude.{◌≡◌, ℕ, ◌<◌, Option, Some, None, Result, Ok, Err, List, [], length, map, zip, slice_index_or}
use Rattle.std.specs.Option.{option_map}
use Rattle.cell_value.specs.declared.state.Keyed.{Keyed}
use Rattle.cell_value.specs.Datum.{cell_at}
use Rattle.cell_value.specs.declared.cell.Cell.{Cell}
use Rattle.expr_eval.specs.declared.error.EvalError.{EvalError}
use Rattle.expr_eval.specs.declared.error.EvalError.TheVariants.{Overflow, Memory}
use Rattle.plain_rows.specs.declared.transforms.GroupOf.{GroupOf}
use Rattle.plain_rows.specs.declared.transforms.OpOf.{OpOf}
use Rattle.plain_rows.specs.Lookups.{with_cells}
use Rattle.plain_groups.specs.GroupRows.{op_cells, group_row}
use Rattle.plain_groups.specs.inner.Places.{row_at, rows_at}

-- the row of the group whose first row stands at a place, and whose rows stand at the places that are told there
abbrev pub group_at : GroupOf → List Keyed → List (List ℕ) → ℕ → Option Keyed
group_at g rows members head = option_map (group_row g (row_at rows head)) (op_cells cell_at g.ops (rows_at rows (slice_index_or members head [])))

-- what operations give over the rows at the places that are told at a head
abbrev pub head_cells : List OpOf → List Keyed → List (List ℕ) → ℕ → Option (List (List ℕ × Cell))
head_cells ops rows members head = op_cells cell_at ops (rows_at rows (slice_index_or members head []))

-- at the place of each row that leads itself stands what is given over its group; `Overflow` where nothing is given at one of them
abbrev pub AreGiven : List OpOf → List Keyed → List ℕ → List (List ℕ) → Result (List (List (List ℕ × Cell))) EvalError → Type 0
AreGiven ops rows leaders members (Ok given) =
    (length given ≡ length leaders)
    × ((p : ℕ) → p < length leaders → slice_index_or leaders p 0 ≡ p → head_cells ops rows members p ≡ Some (slice_index_or given p []))
AreGiven ops rows leaders members (Err Overflow) = (p : ℕ) × (p < length leaders) × (slice_index_or leaders p 0 ≡ p) × (head_cells ops rows members p ≡ None)
AreGiven ops rows leaders members (Err Memory) = Unit {0}

-- the rows, each with the cells that are given at the place of its leader
abbrev pub joined_rows : List (List (List ℕ × Cell)) → List Keyed → List ℕ → List Keyed
joined_rows given rows leaders = map (λ (led : Keyed × ℕ). with_cells led.0 (slice_index_or given led.1 [])) (zip rows leaders)
