-- What clicks leave in the store of a selection.
use Rattle.std.specs.Prelude.{◌≡◌, refl, ℕ, ◌==◌, Bool, not, if◌then◌else◌, Option, Some, None, List, [], ◌∷◌, ◌++◌, filter}
use Rattle.std.specs.List.{list_any, list_all}
use Rattle.cell_value.specs.declared.state.StoreOf.{StoreOf}
use Rattle.cell_value.specs.Cell.{same_cells}
use Rattle.cell_value.specs.Row.{Cells, cell_of}

-- a store that holds nothing
abbrev pub empty_store : List ℕ → StoreOf
empty_store name = record { name = name; tuples = []; extents = []; panel = None; unit = 0 }

-- a store with these tuples since an event in a panel with this facet row, whose least unit of the selection is this; without a tuple it is
-- empty
abbrev pub with_tuples : List ℕ → Option Cells → ℕ → List Cells → StoreOf
with_tuples name facet unit [] = empty_store name
with_tuples name facet unit (t ∷ ts) = record { name = name; tuples = t ∷ ts; extents = []; panel = facet; unit = unit }

-- two tuples agree in these fields
abbrev pub is_same_tuple : List (List ℕ) → Cells → Cells → Bool
is_same_tuple fields a b = list_all (λ f. same_cells (cell_of a f) (cell_of b f)) fields

-- some, with one more at the end; where it is among them already, without it
abbrev pub toggled : {X : Type 0} → (X → X → Bool) → X → List X → List X
toggled same x xs = if list_any (same x) xs then filter (λ y. not (same x y)) xs else xs ++ x ∷ []

-- a click sets the store to the tuple of the item that is hit; where none is, it clears
abbrev pub store_clicked : List ℕ → Option Cells → ℕ → Option Cells → StoreOf
store_clicked name facet unit None = empty_store name
store_clicked name facet unit (Some tuple) = with_tuples name facet unit (tuple ∷ [])

-- a click with the shift key adds the tuple, or takes it out; where no item is hit, nothing changes
abbrev pub store_toggled : List (List ℕ) → Option Cells → ℕ → StoreOf → Option Cells → StoreOf
store_toggled fields facet unit store None = store
store_toggled fields facet unit store (Some tuple) = with_tuples store.name facet unit (toggled (is_same_tuple fields) tuple store.tuples)

-- The rules at work.

abbrev with_one : ℕ → List ℕ → List ℕ
with_one = toggled (λ a b. a == b)

tuples_are_toggled : (with_one 3 [] ≡ 3 ∷ []) × (with_one 3 (5 ∷ []) ≡ 5 ∷ 3 ∷ []) × (with_one 3 (3 ∷ 5 ∷ []) ≡ 5 ∷ [])
    × (with_one 3 (3 ∷ []) ≡ [])
tuples_are_toggled = (refl, refl, refl, refl)

a_click_on_nothing : store_clicked (1 ∷ []) None 4 None ≡ empty_store (1 ∷ [])
a_click_on_nothing = refl
