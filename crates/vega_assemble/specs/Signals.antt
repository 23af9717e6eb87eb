-- Parameters as signals of the top, in the order of the specification: one that can be set with its value, a computed one with its expression. A selection has
-- no value; it says what it does on each event that it answers, a click, a click with the shift key, a drag, a double click, as a call that names it and
-- the fields, or for each channel of a drag the channel, the scale and the field; and it names the marks of the units that it concerns.
use Rattle.std.specs.Prelude.{◌≡◌, refl, ℕ, ◌+◌, Bool, Some, None, List, [], ◌∷◌, ◌++◌, map, flat_map, codes, slice_get, if◌then◌else◌}
use Rattle.std.specs.Option.{option_to_list, option_map, option_map_or}
use Rattle.std.specs.Str.{bytes_eq}
use Rattle.cell_value.specs.declared.cell.Cell.{Cell}
use Rattle.expr_syntax.specs.declared.expr.Expr.{Expr}
use Rattle.expr_syntax.specs.declared.expr.Expr.TheVariants as expr
use Rattle.expr_syntax.specs.Writing.{text_of}
use Rattle.vega_spec.specs.declared.signals.EventSelector.{EventSelector}
use Rattle.vega_spec.specs.declared.signals.EventSelector.TheVariants.{Click, ShiftClick, DoubleClick, Drag}
use Rattle.vega_spec.specs.declared.signals.EventUpdate.{EventUpdate}
use Rattle.vega_spec.specs.declared.signals.Signal.{Signal}
use Rattle.vl_spec.specs.declared.params.ParamKind.{ParamKind}
use Rattle.vl_spec.specs.declared.params.ParamKind.TheVariants as kind
use Rattle.vl_spec.specs.declared.params.ParamOf.{ParamOf}
use Rattle.vl_normalize.specs.declared.codes.TheConstants.{X, Y}
use Rattle.selection_events.specs.declared.selection.DragOf.{DragOf}
use Rattle.plan_kit.specs.declared.scales.ScalePlan.{ScalePlan}
use Rattle.plan_kit.specs.declared.selections.SelectionPlan.{SelectionPlan}
use Rattle.vega_assemble.specs.Drags.{dragged_name}
use Rattle.vega_assemble.specs.Names.{mark_name}

-- ---- calls

-- a text as an expression has it, in quotes
abbrev pub quoted : List ℕ → List ℕ
quoted text = text_of (expr.Text text)

abbrev pub and_quoted : List ℕ → List ℕ
and_quoted text = codes ", " ++ quoted text

-- a call of a name with a text and more of them
abbrev pub call : List ℕ → List ℕ → List (List ℕ) → List ℕ
call name first others = name ++ codes "(" ++ quoted first ++ flat_map and_quoted others ++ codes ")"

-- ---- entries

abbrev pub entry : EventSelector → List ℕ → EventUpdate
entry events update = record { events = events; update = update }

-- what is kept of an item that is clicked, with the shift key or without
abbrev pub clicked : List ℕ → List (List ℕ) → EventUpdate
clicked name fields = entry Click (call (codes "vlPoint") name fields)

abbrev pub toggled : List ℕ → List (List ℕ) → EventUpdate
toggled name fields = entry ShiftClick (call (codes "vlToggle") name fields)

-- of a drag a channel, its scale and its field
abbrev pub channel_code : List ℕ → ℕ
channel_code word = if bytes_eq word (codes "y") then Y else X

abbrev pub triple : List ℕ → List ScalePlan → ℕ → SelectionPlan → DragOf → List (List ℕ)
triple stem scales selection s d = d.channel ∷ dragged_name stem scales selection s (channel_code d.channel) ∷ d.field ∷ []

abbrev pub triples : List ℕ → List ScalePlan → ℕ → SelectionPlan → List (List ℕ)
triples stem scales selection s = flat_map (triple stem scales selection s) s.kept.drag

abbrev pub dragged : List ℕ → List (List ℕ) → List EventUpdate
dragged name [] = []
dragged name (first ∷ others) = entry Drag (call (codes "vlInterval") name (first ∷ others)) ∷ []

abbrev pub cleared : Bool → List ℕ → List EventUpdate
cleared clears name = if clears then entry DoubleClick (call (codes "vlClear") name []) ∷ [] else []

-- all entries of the selection at a place
abbrev pub entries : List ℕ → List ScalePlan → ℕ → SelectionPlan → List EventUpdate
entries stem scales selection s =
    option_to_list (option_map (clicked s.kept.name) s.kept.click) ++ option_to_list (option_map (toggled s.kept.name) s.kept.toggle)
    ++ dragged s.kept.name (triples stem scales selection s) ++ cleared s.kept.clears s.kept.name

-- ---- signals

abbrev pub set_signal : List ℕ → Cell → Signal
set_signal name value = record { name = name; value = Some value; update = None; on = None; marks = None }

abbrev pub computed_signal : List ℕ → Expr → Signal
computed_signal name e = record { name = name; value = None; update = Some e; on = None; marks = None }

abbrev pub selection_signal : List ℕ → List ScalePlan → List ℕ → ℕ × SelectionPlan → Signal
selection_signal stem scales name s = record {
  name = name;
  value = None;
  update = None;
  on = Some (entries stem scales s.0 s.1);
  marks = Some (map (mark_name stem) s.1.kept.units);
}

-- a selection of which the plan tells nothing; no plan lacks one
abbrev pub silent_signal : List ℕ → Signal
silent_signal name = record { name = name; value = None; update = None; on = Some []; marks = Some [] }

-- a selection with its place
abbrev pub at_place : ℕ → SelectionPlan → ℕ × SelectionPlan
at_place place s = (place, s)

-- the selection at a place among the plan's
abbrev pub selected_at : List ℕ → List ScalePlan → List SelectionPlan → List ℕ → ℕ → Signal
selected_at stem scales selections name place =
    option_map_or (λ s. selection_signal stem scales name (at_place place s)) (slice_get selections place) (silent_signal name)

abbrev pub kind_at : List ℕ → List ScalePlan → List SelectionPlan → ℕ → List ℕ → ParamKind → Signal
kind_at stem scales selections place name (kind.Value c) = set_signal name c
kind_at stem scales selections place name (kind.Expr e) = computed_signal name e
kind_at stem scales selections place name (kind.Select s) = selected_at stem scales selections name place

-- a parameter, where so many selections stand before it
abbrev pub signal_at : List ℕ → List ScalePlan → List SelectionPlan → ℕ → ParamOf → Signal
signal_at stem scales selections place p = kind_at stem scales selections place p.name p.kind

-- how many stand before what comes behind it
abbrev pub behind_kind : ℕ → ParamKind → ℕ
behind_kind place (kind.Value c) = place
behind_kind place (kind.Expr e) = place
behind_kind place (kind.Select s) = place + 1

abbrev pub place_behind : ℕ → ParamOf → ℕ
place_behind place p = behind_kind place p.kind

-- the signals of parameters, where so many selections stand before them: each selection is the plan's at that place
abbrev pub signals_from : List ℕ → List ScalePlan → List SelectionPlan → ℕ → List ParamOf → List Signal
signals_from stem scales selections place [] = []
signals_from stem scales selections place (p ∷ params) =
    signal_at stem scales selections place p ∷ signals_from stem scales selections (place_behind place p) params

abbrev pub signals_of : List ℕ → List ScalePlan → List SelectionPlan → List ParamOf → List Signal
signals_of stem scales selections params = signals_from stem scales selections 0 params

-- The rules at work.

no_drag_without_channels : dragged (codes "p") [] ≡ []
no_drag_without_channels = refl
