-- The selections of a specification: the signals of its top that do something on events.
use Rattle.std.specs.Prelude.{◌≡◌, refl, ℕ, Bool, true, false, if◌then◌else◌, Option, Some, None, is_some, List, [], ◌∷◌, filter_map, codes}
use Rattle.std.specs.Option.{option_map, option_map_or}
use Rattle.std.specs.List.{list_any, enumerate_from}
use Rattle.std.specs.Str.{bytes_eq}
use Rattle.vega_spec.specs.declared.signals.EventSelector.TheVariants.{Click, ShiftClick, DoubleClick, Drag}
use Rattle.vega_spec.specs.declared.signals.EventUpdate.{EventUpdate}
use Rattle.vega_spec.specs.declared.signals.Signal.{Signal}
use Rattle.vega_spec.specs.declared.spec.Group.{out-Group}
use Rattle.vega_spec.specs.declared.spec.VgSpec.{VgSpec}
use Rattle.vega_spec.specs.Names.{signals_of}
use Rattle.selection_events.specs.declared.selection.SelectionOf.{SelectionOf}
use Rattle.vega_selections.specs.declared.selections.VgSelection.{VgSelection}
use Rattle.vega_selections.specs.Marks.{MarkNames, names_in}
use Rattle.vega_selections.specs.Updates.{entry_with, texts_with, each_once, channels_in, scales_in}

-- whether a selection concerns a mark of this name, if it has one: all marks, where the selection names none
abbrev pub concerns : Option (List (List ℕ)) → Option (List ℕ) → Bool
concerns None name = true
concerns (Some names) None = false
concerns (Some names) (Some name) = list_any (bytes_eq name) names

-- the number of a mark, if the selection concerns it
abbrev pub unit_at : Option (List (List ℕ)) → ℕ × Option (List ℕ) → Option ℕ
unit_at names mark = if concerns names mark.1 then Some mark.0 else None

-- the numbers of the marks that a selection concerns, of marks with these names
abbrev pub units_of : MarkNames → Option (List (List ℕ)) → List ℕ
units_of marks names = filter_map (unit_at names) (enumerate_from 0 marks)

-- the fields that a selection keeps of an event, if it does something on it
abbrev pub fields_on : Option (List (List ℕ)) → Option (List (List ℕ))
fields_on texts = option_map each_once texts

-- a signal with these entries, as a selection
abbrev pub selection_of : MarkNames → Signal → List EventUpdate → SelectionOf
selection_of marks s entries = record {
  name = s.name;
  units = units_of marks s.marks;
  click = fields_on (texts_with Click entries);
  toggle = fields_on (texts_with ShiftClick entries);
  clears = is_some (entry_with DoubleClick entries);
  drag = option_map_or channels_in (texts_with Drag entries) [];
}

-- the same with the names of the scales that its drags invert
abbrev pub selection_with : MarkNames → Signal → List EventUpdate → VgSelection
selection_with marks s entries = record {
  selection = selection_of marks s entries;
  scales = option_map_or scales_in (texts_with Drag entries) [];
}

-- the selection that a signal is, if it is one
abbrev pub selection_in : MarkNames → Signal → Option VgSelection
selection_in marks s = option_map (selection_with marks s) s.on

-- the selections of a specification, in the order of the signals of its top
abbrev pub selections_of : VgSpec → List VgSelection
selections_of g = filter_map (selection_in (names_in g.group)) (signals_of (out-Group g.group))

-- The rules at work.

-- the first and the third of four marks have names
abbrev four_marks : MarkNames
four_marks = Some (codes "a") ∷ None ∷ Some (codes "b") ∷ None ∷ []

marks_of_selections : (units_of four_marks None ≡ 0 ∷ 1 ∷ 2 ∷ 3 ∷ []) × (units_of four_marks (Some (codes "b" ∷ codes "u" ∷ [])) ≡ 2 ∷ [])
    × (units_of four_marks (Some []) ≡ [])
marks_of_selections = (refl, refl, refl)

-- a signal without an entry is a selection that does nothing
abbrev a_signal : Option (List EventUpdate) → Signal
a_signal entries = record { name = codes "p"; value = None; update = None; on = entries; marks = None }

signals_as_selections : (selection_in four_marks (a_signal None) ≡ None)
    × (option_map (λ (s : VgSelection). s.selection.units) (selection_in four_marks (a_signal (Some []))) ≡ Some (0 ∷ 1 ∷ 2 ∷ 3 ∷ []))
signals_as_selections = (refl, refl)
