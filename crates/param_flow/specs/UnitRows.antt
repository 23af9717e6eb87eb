-- What is read of the rows that marks draw.
use Rattle.std.specs.Prelude.{◌≡◌, refl, ℕ, ◌==◌, ◌&&◌, Bool, Option, Some, None, List, [], ◌∷◌, find, codes}
use Rattle.std.specs.Option.{option_map}
use Rattle.cell_value.specs.declared.cell.Cell.{Cell}
use Rattle.cell_value.specs.declared.cell.Cell.TheVariants.{Text}
use Rattle.cell_value.specs.declared.state.Key.{Key}
use Rattle.cell_value.specs.Datum.{Datum}

-- whether a row has this key
abbrev pub has_key : Key → Datum → Bool
has_key key row = row.key.id == key.id && row.key.branch == key.branch

-- the cell under a name, in the first row of a key; None where the unit is not told, or no row has the key
abbrev pub cell_in_unit : Option (List Datum) → Key → List ℕ → Option Cell
cell_in_unit None key name = None
cell_in_unit (Some rows) key name = option_map (λ (row : Datum). row.cell name) (find (has_key key) rows)

-- The rules at work.

-- a row of this id and branch, whose cell under each name is that name
abbrev row_named : ℕ → ℕ → Datum
row_named id branch = record { key = record { id = id; branch = branch }; cell = λ name. Text name }

a_branch_of_a_row :
    cell_in_unit (Some (row_named 7 0 ∷ row_named 7 1 ∷ [])) (record { id = 7; branch = 1 }) (codes "a") ≡ Some (Text (codes "a"))
a_branch_of_a_row = refl

no_row_of_the_key : cell_in_unit (Some (row_named 7 0 ∷ [])) (record { id = 7; branch = 1 }) (codes "a") ≡ None
no_row_of_the_key = refl

no_such_unit : cell_in_unit None (record { id = 7; branch = 0 }) (codes "a") ≡ None
no_such_unit = refl
