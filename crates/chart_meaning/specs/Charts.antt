-- The chart of a specification over a state. First come the lists of all units and the orders of the cells of facets: one out of range stops all, and a step
-- that mentions a lost parameter counts as out of range. Then the plots inside faceted views are counted: more than 400 are too many, and their count is
-- told up to the greatest of 64 bits. Then all the rest is drawn: all parameters and all scales count, used or not, those of a facet once per panel. A brush
-- is an item after the marks of its panel. The text is that of the scene.
use Rattle.std.specs.Prelude.{◌≡◌, refl, ℕ, ◌-◌, ◌^◌, ◌==◌, ◌&&◌, min, nat_lt, Bool, false, Option, Some, None, List, [], ◌∷◌, map, find}
use Rattle.std.specs.Prelude.{flat_map, codes, if◌then◌else◌}
use Rattle.std.specs.Option.{option_map, option_map_or}
use Rattle.std.specs.Str.{bytes_eq}
use Rattle.cell_value.specs.declared.state.StoreOf.{StoreOf}
use Rattle.cell_value.specs.State.{State}
use Rattle.scale_kit.specs.declared.scale.ScaleIn.{ScaleIn}
use Rattle.scale_kit.specs.declared.scale.ScaleSet.{ScaleSet}
use Rattle.vl_spec.specs.declared.params.ParamOf.{ParamOf}
use Rattle.vl_spec.specs.declared.spec.VlSpec.{VlSpec}
use Rattle.scene_tree.specs.declared.scene.Scene.{Scene}
use Rattle.scene_tree.specs.Outcome.{Outcome, ◌>>=◌, in_reach, outcome_map, Drawn, Panels}
use Rattle.plot_scenes.specs.declared.scenes.Drawing.{Drawing}
use Rattle.selection_events.specs.declared.selection.PlotOf.{PlotOf}
use Rattle.selection_events.specs.Brushes.{with_brushes}
use Rattle.selection_events.specs.Events.{Inverts}
use Rattle.param_flow.specs.Semantics.{Picture, text_of}
use Rattle.plan_kit.specs.declared.grids.GridPlan.{GridPlan}
use Rattle.plan_kit.specs.declared.plan.Plan.{Plan}
use Rattle.plan_kit.specs.declared.plots.PlotPlan.{PlotPlan}
use Rattle.chart_plan.specs.Plan.{plan_of}
use Rattle.chart_meaning.specs.Parameters.{settled, values_in}
use Rattle.chart_meaning.specs.Parts.{whole_copy, names_of, by_a}
use Rattle.chart_meaning.specs.Plots.{drag_name}
use Rattle.chart_meaning.specs.Views.{plots_in_facets, views_of, drawing_over}

-- ---- outcomes

-- as many plots inside faceted views as a chart may have
abbrev pub most_panels : ℕ
most_panels = 400

-- a chart with so many of them
abbrev pub with_panels : {X : Type 0} → ℕ → Outcome X → Outcome X
with_panels n drawn = if nat_lt most_panels n then Panels (min n (2 ^ 64 - 1)) else drawn

-- What comes of drawing a plan over a state, before its brushes: the lists, then the count of panels, then the rest.
abbrev pub drawn : Plan → List ParamOf → State → Outcome Drawing
drawn p params st = do
  copy ← in_reach (whole_copy (values_in params st) st.sources p)
  with_panels (plots_in_facets (views_of p) copy) (in_reach (drawing_over p (settled params st) (values_in params st) copy))

-- ---- plots and scales, as events see them

abbrev pub has_number : ℕ → GridPlan → Bool
has_number number grid = grid.number == number

abbrev pub fields_of_grid : GridPlan → List (List ℕ)
fields_of_grid grid = option_map_or names_of grid.facet []

-- the names of the fields of the facet of a number
abbrev pub fields_of_facet : List GridPlan → ℕ → List (List ℕ)
fields_of_facet grids number = option_map_or fields_of_grid (find (has_number number) grids) []

-- the fields of the facets of these numbers, none outside facets
abbrev pub fields_round : List GridPlan → List ℕ → Option (List (List ℕ))
fields_round grids [] = None
fields_round grids (facet ∷ facets) = Some (flat_map (fields_of_facet grids) (facet ∷ facets))

abbrev pub plot_seen : List GridPlan → PlotPlan → PlotOf
plot_seen grids plot = record { units = plot.units; facet = fields_round grids plot.facets }

-- the plots of a chart, in the order of the text
abbrev pub plots_of : Plan → List PlotOf
plots_of p = map (plot_seen p.grids) p.plots

abbrev pub is_inverted : ℕ → List ℕ → ScaleIn → Bool
is_inverted index name s = option_map_or (λ panel. panel == index) s.panel false && bytes_eq s.name name

-- the scale that a drag of a selection inverts along a channel in the panel of an index
abbrev pub inverted_in : ScaleSet → Inverts
inverted_in set index selection channel =
    option_map (λ (s : ScaleIn). s.scale) (find (is_inverted index (drag_name selection channel)) set.scales)

-- ---- charts

abbrev pub picture_with : ScaleSet → Scene → Picture
picture_with scales scene = record { scene = scene; inverts = inverted_in scales }

-- a scene with the brushes of these stores, and the scales that drags invert; Overflow where a brush is out of range
abbrev pub brushed : Plan → List StoreOf → Drawing → Outcome Picture
brushed p stores d =
    outcome_map (picture_with d.scales) (in_reach (with_brushes (plots_of p) (inverted_in d.scales) stores d.scene))

-- what comes of drawing a plan over a state
abbrev pub picture_over : Plan → List ParamOf → State → Outcome Picture
picture_over p params st = drawn p params st >>= brushed p st.stores

-- The picture of a specification over a state.
abbrev pub picture_of : VlSpec → State → Outcome Picture
picture_of s st = picture_over (plan_of s) s.params st

-- its scene
abbrev pub scene_of : VlSpec → State → Outcome Scene
scene_of s st = outcome_map (λ (picture : Picture). picture.scene) (picture_of s st)

-- The chart of a specification over a state: its SVG text, `Overflow`, or `Panels` with the count.
abbrev pub chart_of : VlSpec → State → Outcome (List ℕ)
chart_of s st = outcome_map text_of (picture_of s st)

-- The rules at work.

abbrev a_drawing : Outcome ℕ
a_drawing = Drawn 7

at_most_400_panels : (with_panels 400 a_drawing ≡ Drawn 7) × (with_panels 401 a_drawing ≡ Panels 401)
    × (with_panels (2 ^ 64) a_drawing ≡ Panels (2 ^ 64 - 1))
at_most_400_panels = (refl, refl, refl)

fields_of_plots : (fields_round (by_a ∷ []) [] ≡ None) × (fields_round (by_a ∷ []) (0 ∷ []) ≡ Some (codes "a" ∷ []))
fields_of_plots = (refl, refl)
