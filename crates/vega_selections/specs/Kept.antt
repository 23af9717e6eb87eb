-- What the selections of a specification without fault keep.
use Rattle.std.specs.Prelude.{ℕ, ◌≢◌, List, map, All, AllPairs}
use Rattle.vega_spec.specs.declared.spec.VgSpec.{VgSpec}
use Rattle.selection_events.specs.Kept.{IsSelection}
use Rattle.vega_selections.specs.declared.selections.VgSelection.{VgSelection}
use Rattle.vega_selections.specs.Selections.{selections_of}

-- the name of a selection
abbrev pub selection_name : VgSelection → List ℕ
selection_name v = v.selection.name

-- a selection keeps the same fields of clicks with and without the shift key, and does not do something on clicks and on drags
abbrev pub IsKept : VgSelection → Type 0
IsKept v = IsSelection v.selection

-- the selections have names of their own, and each is such
pub record KeepsSelections (g : VgSpec) : Type 0 where
  pub own_names : AllPairs (λ a b. a ≢ b) (map selection_name (selections_of g))
  pub each : All IsKept (selections_of g)
