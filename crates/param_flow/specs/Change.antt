-- What a change does to the rows of a source. Its expressions read rows and values of parameters as they were before it.
use Rattle.std.specs.Prelude.{◌≡◌, refl, ℕ, pos, unwrap_or, not, Bool, true, false, Option, Some, None, List, [], ◌∷◌, ◌++◌, length, map}
use Rattle.std.specs.Prelude.{fold, if◌then◌else◌, codes}
use Rattle.std.specs.List.{filter, filter_map, flat_map}
use Rattle.std.specs.Option.{option_map, option_to_list}
use Rattle.std.specs.Str.{bytes_eq}
use Rattle.fixed_num.specs.Ranges.{◌>>=◌, all_found}
use Rattle.cell_value.specs.declared.cell.Cell.{Cell}
use Rattle.cell_value.specs.declared.cell.Cell.TheVariants as cell
use Rattle.cell_value.specs.Datum.{Datum, id_name, datum_with}
use Rattle.expr_syntax.specs.declared.expr.Expr.{Expr}
use Rattle.expr_syntax.specs.Names.{names_in}
use Rattle.expr_eval.specs.Plain.{no_values}
use Rattle.expr_eval.specs.Value.{value_of, truth_of}
use Rattle.expr_eval.specs.Values.{Values}
use Rattle.param_flow.specs.declared.command.Modify.{Modify}
use Rattle.param_flow.specs.declared.command.ChangeOf.{ChangeOf}

-- the names of parameters that the expressions of an entry mention
abbrev pub names_of_entry : Modify → List (List ℕ)
names_of_entry entry = names_in entry.test ++ names_in entry.value

-- the names of parameters that the expressions of a change mention
abbrev pub names_of_change : ChangeOf → List (List ℕ)
names_of_change change = flat_map names_in (option_to_list change.remove) ++ flat_map names_of_entry change.modify

-- a row in which cells were set, in this order: where two have one name, the later one holds
abbrev pub with_cells : List (List ℕ × Cell) → Datum → Datum
with_cells settings row = fold (λ row setting. datum_with setting.0 setting.1 row) row settings

-- over the values of parameters
module _ (values : Values) where
  -- whether a row is removed; None where that is out of range
  abbrev pub removal_of : Option Expr → Datum → Option Bool
  removal_of None row = Some false
  removal_of (Some test) row = truth_of row.cell values test

  -- what an entry sets in a row: nothing where its test doesn't hold, else a cell under the name of its field
  abbrev pub setting_of : Datum → Modify → Option (Option (List ℕ × Cell))
  setting_of row entry = do
    applies ← truth_of row.cell values entry.test
    if applies then option_map (λ cell. Some (entry.field, cell)) (value_of row.cell values entry.value) else Some None

  -- a row with what the entries set in it
  abbrev pub modified : List Modify → Datum → Option Datum
  modified entries row = do
    settings ← all_found (map (setting_of row) entries)
    Some (with_cells (filter_map (λ setting. setting) settings) row)

  -- what becomes of a row: nothing where it is removed, else the row as it is modified
  abbrev pub row_after : ChangeOf → Datum → Option (Option Datum)
  row_after change row = do
    removed ← removal_of change.remove row
    if removed then Some None else option_map Some (modified change.modify row)

  -- the rows that aren't removed, each as it is modified; None where an expression that is needed is out of range
  abbrev pub rows_after : ChangeOf → List Datum → Option (List Datum)
  rows_after change rows = option_map (filter_map (λ row. row)) (all_found (map (row_after change) rows))

  -- whether a row counts as one that stays: also one of which it can't be said whether it is removed
  abbrev pub stays : Option Expr → Datum → Bool
  stays remove row = not (unwrap_or (removal_of remove row) false)

  -- how many rows count as ones that stay
  abbrev pub count_staying : Option Expr → List Datum → ℕ
  count_staying remove rows = length (filter (stays remove) rows)

-- The rules at work.

-- the row of id 7, with 5 millionths under `b`
abbrev a_row : Datum
a_row = record {
  key = record { id = 7; branch = 0 };
  cell = λ name.
      if bytes_eq name id_name then cell.Number (pos 7000000)
      else (if bytes_eq name (codes "b") then cell.Number (pos 5) else cell.Null);
}

-- the cells under `b` and under the name of the id once these cells were set in it
abbrev after : List (List ℕ × Cell) → Cell × Cell
after settings = let row = with_cells settings a_row in (row.cell (codes "b"), row.cell id_name)

the_later_cell_holds : after ((codes "b", cell.Null) ∷ (codes "b", cell.Flag true) ∷ []) ≡ (cell.Flag true, cell.Number (pos 7000000))
the_later_cell_holds = refl

the_id_stays : after ((id_name, cell.Null) ∷ []) ≡ (cell.Number (pos 5), cell.Number (pos 7000000))
the_id_stays = refl

no_entry_changes_nothing : row_after no_values (record { remove = None; modify = []; insert = [] }) a_row ≡ Some (Some a_row)
no_entry_changes_nothing = refl
