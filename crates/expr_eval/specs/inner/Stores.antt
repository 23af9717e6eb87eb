-- Stores by their names, and the cells of rows that are compared with their tuples.
use Rattle.std.specs.Prelude.{◌≡◌, ℕ, Bool, Option, List, String, map, slice_get}
use Rattle.std.specs.List.{list_all}
use Rattle.std.specs.declared.alloc.Global.{Global}
use Rattle.std.specs.BTreeMap.{BTreeMap, get_by_text}
use Rattle.fixed_num.specs.Ranges.{◌>>=◌}
use Rattle.cell_value.specs.declared.cell.Cell.{Cell}
use Rattle.cell_value.specs.declared.state.StoreOf.{StoreOf}
use Rattle.cell_value.specs.Cell.{same_cells}
use Rattle.cell_value.specs.Datum.{CellAt}
use Rattle.cell_value.specs.Row.{Cells, cell_of}
use Rattle.expr_eval.specs.Stores.{store_named}

-- the place under a name
abbrev pub place_under : BTreeMap (String Global) ℕ → List ℕ → Option ℕ
place_under places name = get_by_text places name

-- each name leads to the first store that has it
abbrev pub LeadsTo : BTreeMap (String Global) ℕ → List StoreOf → List StoreOf → Type 0
LeadsTo places stores named = (name : List ℕ) → (place_under places name >>= slice_get stores) ≡ store_named named name

abbrev pub FindsStores : BTreeMap (String Global) ℕ → List StoreOf → Type 0
FindsStores places stores = LeadsTo places stores stores

-- the cells of a row under the names of entries, with the names
abbrev pub named_cells : {X : Type 0} → CellAt → List (List ℕ × X) → List (List ℕ × Cell)
named_cells row entries = map (λ entry. (entry.0, row entry.0)) entries

-- whether a tuple has all of some cells under their names
abbrev pub agrees_with : List (List ℕ × Cell) → Cells → Bool
agrees_with cells tuple = list_all (λ cell. same_cells cell.1 (cell_of tuple cell.0)) cells
