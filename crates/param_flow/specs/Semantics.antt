-- What a specification means to commands. Each meaning of specifications gives this record of each of its own.
use Rattle.std.specs.Prelude.{ℕ, Bool, true, false, Some, List, ◌&&◌, unwrap_or}
use Rattle.std.specs.List.{list_any}
use Rattle.std.specs.Str.{bytes_eq}
use Rattle.cell_value.specs.declared.cell.Cell.TheVariants.{Null}
use Rattle.cell_value.specs.Datum.{Datum}
use Rattle.cell_value.specs.State.{State}
use Rattle.expr_eval.specs.Values.{Values}
use Rattle.scene_tree.specs.declared.scene.Scene.{Scene}
use Rattle.scene_tree.specs.Outcome.{Outcome, outcome_map}
use Rattle.svg_text.specs.SceneText.{svg_of}
use Rattle.selection_events.specs.declared.selection.SelectionOf.{SelectionOf}
use Rattle.selection_events.specs.declared.selection.PlotOf.{PlotOf}
use Rattle.selection_events.specs.Events.{Inverts, Seen}
use Rattle.selection_events.specs.Kept.{Temporal}
use Rattle.param_flow.specs.UnitRows.{cell_in_unit}

-- a parameter that commands may set, one that is computed from others, or a selection
pub data ParamKind : Type 0 where
  Settable : ParamKind
  Computed : ParamKind
  Selection : ParamKind

-- a parameter of a specification
pub record ParamOf : Type 0 where
  pub name : List ℕ
  pub kind : ParamKind

-- What is drawn of a state: the scene, and the scale that a drag inverts in a panel, by its index in the scene, of the selection of a name,
-- along a channel.
pub record Picture : Type 0 where
  pub scene : Scene
  pub inverts : Inverts

pub record Semantics : Type 0 where
  -- the names of the sources
  pub sources : List (List ℕ)
  -- the parameters
  pub params : List ParamOf
  -- the selections, in the order of their stores
  pub selections : List SelectionOf
  -- the plots with marks
  pub plots : List PlotOf
  -- whether the scale of a plot along a channel of a selection is one of time
  pub temporal : Temporal
  -- what the expressions of a command read of parameters and selections in a state; no scale has a domain there
  pub values : State → Values
  -- what comes of drawing the chart of a state
  pub draw : State → Outcome Picture
  -- the rows that the mark of a unit draws in a state, panel after panel, where its items have keys
  pub rows : State → ℕ → List Datum

-- the text of what is drawn
abbrev pub text_of : Picture → List ℕ
text_of picture = svg_of picture.scene

-- what comes of drawing the chart of a state, as its text
abbrev pub chart_of : Semantics → State → Outcome (List ℕ)
chart_of meaning st = outcome_map text_of (meaning.draw st)

-- what events see of what is drawn, where marks draw these rows
abbrev pub seen_over : (ℕ → List Datum) → Picture → Seen
seen_over rows picture = record {
  scene = picture.scene;
  scale = picture.inverts;
  cell = λ unit key name. unwrap_or (cell_in_unit (Some (rows unit)) key name) Null;
}

-- what events see of a state that is drawn
abbrev pub seen_of : Semantics → State → Picture → Seen
seen_of meaning st picture = seen_over (meaning.rows st) picture

abbrev pub is_settable : ParamKind → Bool
is_settable Settable = true
is_settable Computed = false
is_settable Selection = false

-- whether there is a source of this name
abbrev pub has_source : Semantics → List ℕ → Bool
has_source meaning name = list_any (λ source. bytes_eq source name) meaning.sources

-- whether there is a parameter of this name
abbrev pub has_param : Semantics → List ℕ → Bool
has_param meaning name = list_any (λ (param : ParamOf). bytes_eq param.name name) meaning.params

-- whether there is a parameter of this name that commands may set
abbrev pub has_settable : Semantics → List ℕ → Bool
has_settable meaning name = list_any (λ (param : ParamOf). bytes_eq param.name name && is_settable param.kind) meaning.params
