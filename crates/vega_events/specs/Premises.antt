-- What is asked of the rows that are told, and how many cells an event reads of them.
use Rattle.std.specs.Prelude.{◌≡◌, ◌⊎◌, ℕ, ◌+◌, max, Bool, true, IsSome, Some, List, [], ◌∷◌, length, unwrap_or, All}
use Rattle.scene_tree.specs.declared.scene.Scene.{Scene}
use Rattle.scene_tree.specs.declared.scene.Panel.{Panel}
use Rattle.scene_tree.specs.declared.scene.Item.{Item}
use Rattle.param_flow.specs.UnitRows.{cell_in_unit}
use Rattle.selection_events.specs.declared.hits.Hit.{Hit}
use Rattle.selection_events.specs.declared.selection.SelectionOf.{SelectionOf}
use Rattle.selection_events.specs.Hits.{marked, is_among}
use Rattle.vega_selections.specs.declared.selections.VgSelection.{VgSelection}
use Rattle.vega_events.specs.Events.{UnitLists}

-- the unit is told, and a row of its list has the key
abbrev pub IsRowOf : UnitLists → Hit → Type 0
IsRowOf rows hit = (name : List ℕ) → IsSome (cell_in_unit (rows hit.unit) hit.key name)

-- each item with a unit and a key is one of a row that its unit draws
abbrev pub ItemIsOfRow : UnitLists → Item → Type 0
ItemIsOfRow rows item = (hit : Hit) → marked item ≡ Some hit → IsRowOf rows hit

abbrev pub ItemsAreOfRows : UnitLists → Scene → Type 0
ItemsAreOfRows rows scene = All (λ (panel : Panel). All (ItemIsOfRow rows) panel.items) scene.panels

-- the fields that a selection keeps of clicks
abbrev pub AreKept : SelectionOf → List (List ℕ) → Type 0
AreKept s fields = (s.click ≡ Some fields) ⊎ (s.toggle ≡ Some fields)

-- of each unit that a selection concerns the fields that it keeps are told
abbrev pub IsTold : (ℕ → List ℕ → Bool) → VgSelection → Type 0
IsTold tells v = (unit : ℕ) → is_among v.selection.units unit ≡ true → (fields : List (List ℕ)) → AreKept v.selection fields
    → All (λ name. tells unit name ≡ true) fields

-- the same of all selections
abbrev pub FieldsAreTold : (ℕ → List ℕ → Bool) → List VgSelection → Type 0
FieldsAreTold tells selections = All (IsTold tells) selections

-- how many fields a selection keeps of clicks
abbrev pub count_kept : SelectionOf → ℕ
count_kept s = max (length (unwrap_or s.click [])) (length (unwrap_or s.toggle []))

-- how many fields some selections keep
abbrev pub count_all : List VgSelection → ℕ
count_all [] = 0
count_all (v ∷ vs) = count_kept v.selection + count_all vs
