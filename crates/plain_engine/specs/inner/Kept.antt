-- What a plain engine keeps.
use Rattle.std.specs.Prelude.{◌≡◌, ℕ, List, map}
use Rattle.std.specs.Coded.{Coded-set}
use Rattle.std.proofs.Math.Logic.{∥∥₁_map}
use Rattle.std.proofs.Props.{props}
use mathlib.Core.Path.{ap}
use Rattle.cell_value.specs.declared.cell.Cell.{Cell}
use Rattle.cell_value.specs.declared.state.ChartState.{ChartState}
use Rattle.cell_value.specs.declared.state.StoreOf.{StoreOf}
use Rattle.cell_value.specs.contracts.row.Row as row
use Rattle.cell_value.specs.State.{IsState, state_of}
use Rattle.expr_eval.specs.Stores.{values_of_stores}
use Rattle.scale_kit.specs.declared.scale.ScaleSet.{ScaleSet}
use Rattle.scene_tree.specs.Outcome.{Outcome, Drawn, Overflow, Panels, outcome_map}
use Rattle.svg_text.specs.SceneText.{svg_of}
use Rattle.param_flow.specs.Semantics.{Picture, text_of}
use Rattle.param_flow.specs.States.{settable_names}
use Rattle.param_flow.specs.inner.Sources.{names_of}
use Rattle.selection_events.specs.Kept.{AreStoresOf}
use Rattle.plot_scenes.specs.declared.scenes.Drawing.{Drawing}
use Rattle.vega_spec.specs.declared.spec.VgSpec.{VgSpec}
use Rattle.vega_spec.specs.Names.{sources_of}
use Rattle.vega_copies.specs.Tested.{KeepsRules}
use Rattle.vega_selections.specs.Kept.{KeepsSelections}
use Rattle.vega_selections.specs.Plots.{plots_of}
use Rattle.vega_charts.specs.Charts.{drawing_of}
use Rattle.vega_meaning.specs.Charts.{vega_picture_of, vega_scene_of}
use Rattle.vega_meaning.specs.Semantics.{vega_semantics}
use Rattle.vega_meaning.specs.States.{IsStateOf}
use Rattle.vega_meaning.specs.Times.{temporal_of}
use Rattle.play_script.specs.Meaning.{Meaning, IsStanding}
use Rattle.plain_engine.specs.inner.Pictures.{scales_of}

-- the scales of what is drawn of a state
abbrev pub scales_drawn : VgSpec → ChartState → Outcome ScaleSet
scales_drawn spec state =
    outcome_map scales_of (drawing_of spec (values_of_stores (state_of state).stores) (state_of state).params (state_of state).sources)

-- the names of parameters with values
abbrev pub param_names : List (List ℕ × Cell) → List (List ℕ)
param_names params = map (λ (param : List ℕ × Cell). param.0) params

-- stores that events can leave, one for each selection
abbrev pub HasStores : VgSpec → List StoreOf → Type 0
HasStores spec stores = AreStoresOf (temporal_of spec) (plots_of spec) (vega_semantics spec).selections stores

abbrev pub MayBeStores : VgSpec → List StoreOf → Type 0
MayBeStores spec stores = ∥ HasStores spec stores ∥₁

-- The specification breaks no rule, the state is one of it, and what is held is what is drawn of it: its scene, and the scales of its plots.
pub record IsKept (spec : VgSpec) (state : ChartState) (held : Drawing) : Type 0 where
  pub rules : KeepsRules spec
  pub selections : ∥ KeepsSelections spec ∥₁
  pub is : IsState (state_of state)
  pub sources : names_of (state_of state).sources ≡ sources_of spec
  pub params : param_names (state_of state).params ≡ settable_names (vega_semantics spec).params
  pub stores : MayBeStores spec (state_of state).stores
  pub scene : vega_scene_of spec (state_of state) ≡ Drawn held.scene
  pub scales : scales_drawn spec state ≡ Drawn held.scales

-- it has one proof at most
pub IsKept-prop : (spec : VgSpec) (state : ChartState) (held : Drawing) → IsProp (IsKept spec state held)
IsKept-prop spec state held = hlevel (props, Coded-set row.the_row.coded)

-- the state is one of the specification
is_state_with : (spec : VgSpec) (state : ChartState) (held : Drawing) → IsKept spec state held → HasStores spec (state_of state).stores
    → IsStateOf spec (state_of state)
is_state_with spec state held h stores = record { is = h.is; sources = h.sources; params = h.params; stores = stores }

pub is_state : (spec : VgSpec) (state : ChartState) (held : Drawing) → IsKept spec state held → ∥ IsStateOf spec (state_of state) ∥₁
is_state spec state held h = ∥∥₁_map h.stores (is_state_with spec state held h)

-- what is kept stands
pub standing : (spec : VgSpec) (state : ChartState) (held : Drawing) → IsKept spec state held
    → (let meaning : Meaning = record { spec = spec; state = state_of state } in IsStanding meaning)
standing spec state held h = record { of = is_state spec state held h; drawn = (svg_of held.scene, text_drawn (vega_picture_of spec (state_of state)) h.scene) }
  where
    text_drawn : (picture : Outcome Picture) → outcome_map (λ (p : Picture). p.scene) picture ≡ Drawn held.scene
        → outcome_map text_of picture ≡ Drawn (svg_of held.scene)
    text_drawn (Drawn p) e = ap (outcome_map svg_of) e
    text_drawn Overflow e = ap (outcome_map svg_of) e
    text_drawn (Panels n) e = ap (outcome_map svg_of) e
