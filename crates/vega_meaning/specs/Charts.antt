-- The chart of a Vega specification over a state.
use Rattle.std.specs.Prelude.{ℕ, List}
use Rattle.cell_value.specs.declared.cell.Cell.{Cell}
use Rattle.cell_value.specs.declared.state.StoreOf.{StoreOf}
use Rattle.cell_value.specs.State.{Dataset, State}
use Rattle.expr_eval.specs.Stores.{values_of_stores}
use Rattle.scale_kit.specs.declared.scale.ScaleSet.{ScaleSet}
use Rattle.scene_tree.specs.declared.scene.Scene.{Scene}
use Rattle.scene_tree.specs.Outcome.{Outcome, ◌>>=◌, in_reach, outcome_map}
use Rattle.selection_events.specs.Brushes.{with_brushes}
use Rattle.selection_events.specs.Events.{Inverts}
use Rattle.param_flow.specs.Semantics.{Picture, text_of}
use Rattle.vega_spec.specs.declared.spec.VgSpec.{VgSpec}
use Rattle.vega_selections.specs.Plots.{plots_of}
use Rattle.vega_selections.specs.Selections.{selections_of}
use Rattle.vega_events.specs.Laws.{inverted_in}
use Rattle.plot_scenes.specs.declared.scenes.Drawing.{Drawing}
use Rattle.vega_charts.specs.Charts.{drawing_of}

-- a scene with the brushes of these stores, where these are the scales of its plots
abbrev pub brushed_scene : VgSpec → List StoreOf → ScaleSet → Scene → Outcome Scene
brushed_scene g stores scales scene = in_reach (with_brushes (plots_of g) (inverted_in scales (selections_of g)) stores scene)

-- the scales of a drawing that drags invert
abbrev pub inverts_in : VgSpec → Drawing → Inverts
inverts_in g drawing = inverted_in drawing.scales (selections_of g)

-- the picture of what is drawn: its scene, with the brushes of these stores, and the scales that drags invert
abbrev pub picture_of : VgSpec → List StoreOf → Drawing → Outcome Picture
picture_of g stores drawing =
    outcome_map (λ scene. record { scene = scene; inverts = inverts_in g drawing }) (brushed_scene g stores drawing.scales drawing.scene)

-- The picture over sources of rows, values of the parameters that can be set, and stores of the selections: that of what is drawn, which may be
-- out of range or have too many plots in facets.
abbrev pub picture_over : VgSpec → List Dataset → List (List ℕ × Cell) → List StoreOf → Outcome Picture
picture_over g sources params stores = drawing_of g (values_of_stores stores) params sources >>= picture_of g stores

-- the picture over a state
abbrev pub vega_picture_of : VgSpec → State → Outcome Picture
vega_picture_of g st = picture_over g st.sources st.params st.stores

-- its scene
abbrev pub vega_scene_of : VgSpec → State → Outcome Scene
vega_scene_of g st = outcome_map (λ (picture : Picture). picture.scene) (vega_picture_of g st)

-- the chart, as its SVG text
abbrev pub vega_chart_of : VgSpec → State → Outcome (List ℕ)
vega_chart_of g st = outcome_map text_of (vega_picture_of g st)
