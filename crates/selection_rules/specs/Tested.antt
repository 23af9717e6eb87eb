-- Whether the selections of a specification are such as charts ask, as a test.
use Rattle.std.specs.Prelude.{◌≡◌, refl, ℕ, Bool, true, false, not, ◌&&◌, ◌||◌, Option, Some, None, is_none, List, [], ◌∷◌, ◌++◌, map, codes}
use Rattle.std.specs.Option.{option_map_or}
use Rattle.std.specs.List.{list_all, list_any}
use Rattle.std.specs.Str.{bytes_eq}
use Rattle.vega_spec.specs.declared.spec.VgSpec.{VgSpec}
use Rattle.selection_events.specs.declared.selection.SelectionOf.{SelectionOf}
use Rattle.selection_events.specs.Kept.{fields_of}
use Rattle.vega_selections.specs.declared.selections.VgSelection.{VgSelection}
use Rattle.vega_selections.specs.Selections.{selections_of}
use Rattle.vega_selections.specs.Kept.{selection_name, KeepsSelections}

-- ---- names

-- whether each name is none of those before it, which follow others
abbrev pub are_own : List (List ℕ) → List (List ℕ) → Bool
are_own before [] = true
are_own before (name ∷ names) = not (list_any (bytes_eq name) before) && are_own (before ++ name ∷ []) names

-- whether each of some names is one of others
abbrev pub has_all : List (List ℕ) → List (List ℕ) → Bool
has_all others names = list_all (λ name. list_any (bytes_eq name) others) names

-- whether two lists have the same names
abbrev pub are_same : List (List ℕ) → List (List ℕ) → Bool
are_same a b = has_all a b && has_all b a

-- ---- selections

-- whether a selection that does something on a click with the shift key keeps the same fields of it as of a click
abbrev pub keeps_the_same : SelectionOf → Bool
keeps_the_same s = option_map_or (λ other. are_same other (fields_of s)) s.toggle true

abbrev pub is_empty : {X : Type 0} → List X → Bool
is_empty [] = true
is_empty (first ∷ others) = false

-- whether it does not do something on clicks and on drags
abbrev pub are_apart : SelectionOf → Bool
are_apart s = is_empty s.drag || (is_none s.click && is_none s.toggle)

abbrev pub is_selection : SelectionOf → Bool
is_selection s = are_apart s && keeps_the_same s

abbrev pub is_kept : VgSelection → Bool
is_kept v = is_selection v.selection

-- whether selections have names of their own, and each is such
abbrev pub are_kept : List VgSelection → Bool
are_kept selections = are_own [] (map selection_name selections) && list_all is_kept selections

abbrev pub keeps_selections : VgSpec → Bool
keeps_selections g = are_kept (selections_of g)

-- ---- that the test is right

abbrev pub TestedAreKept : Type 0
TestedAreKept = (g : VgSpec) → keeps_selections g ≡ true → KeepsSelections g

abbrev pub KeptPass : Type 0
KeptPass = (g : VgSpec) → KeepsSelections g → keeps_selections g ≡ true

-- The rules at work.

names_in_another_order : (are_same (codes "a" ∷ codes "b" ∷ []) (codes "b" ∷ codes "a" ∷ codes "b" ∷ []) ≡ true)
    × (are_same (codes "a" ∷ codes "b" ∷ []) (codes "b" ∷ []) ≡ false) × (are_same [] [] ≡ true)
names_in_another_order = (refl, refl, refl)

abbrev a_selection : Option (List (List ℕ)) → Option (List (List ℕ)) → SelectionOf
a_selection click toggle =
    record { name = codes "s"; units = 0 ∷ []; click = click; toggle = toggle; clears = true; drag = [] }

clicks_and_toggles : (is_selection (a_selection (Some (codes "a" ∷ [])) (Some (codes "a" ∷ []))) ≡ true)
    × (is_selection (a_selection (Some (codes "a" ∷ [])) (Some (codes "b" ∷ []))) ≡ false)
    × (is_selection (a_selection None (Some (codes "b" ∷ []))) ≡ true)
clicks_and_toggles = (refl, refl, refl)
