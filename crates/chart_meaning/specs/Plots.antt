-- The plots of a chart. A unit alone, or a layer, is one plot: its axes over its scales, then the marks of its units by their numbers. In facets a shared
-- x axis stands where no panel is below, and a shared y axis in the first column, in each of the facets that share it; joined views between don't count.
-- A plot has the headers of all facets round it, and its own title.
use Rattle.std.specs.Prelude.{◌≡◌, refl, ℕ, ◌==◌, Bool, true, false, not, ◌||◌, ℤ, Option, Some, None, List, [], ◌∷◌, ◌++◌, map, filter, flat_map}
use Rattle.std.specs.Prelude.{slice_get, codes, if◌then◌else◌}
use Rattle.std.specs.List.{filter_map, list_all, list_any}
use Rattle.std.specs.Option.{option_map, option_map_or}
use Rattle.fixed_num.specs.Ranges.{◌>>=◌, all_found}
use Rattle.scale_kit.specs.declared.scale.ScaleIn.{ScaleIn}
use Rattle.expr_eval.specs.Values.{Values}
use Rattle.vl_normalize.specs.declared.codes.TheConstants.{X, Y}
use Rattle.scene_tree.specs.declared.scene.Item.{Item}
use Rattle.plot_scenes.specs.declared.axes.Axes.{Axes}
use Rattle.plot_scenes.specs.declared.axes.AxisShown.{AxisShown}
use Rattle.plot_scenes.specs.declared.views.Plot.{Plot}
use Rattle.plot_scenes.specs.Axes.{axes_at}
use Rattle.plan_kit.specs.declared.plans.UnitPlan.{UnitPlan}
use Rattle.plan_kit.specs.declared.plan.Plan.{Plan}
use Rattle.plan_kit.specs.declared.plots.AxisPlan.{AxisPlan}
use Rattle.plan_kit.specs.declared.plots.PlotPlan.{PlotPlan}
use Rattle.plan_kit.specs.declared.scales.ScalePlan.{ScalePlan}
use Rattle.plan_kit.specs.declared.selections.DragPlan.{DragPlan}
use Rattle.plan_kit.specs.declared.selections.SelectionPlan.{SelectionPlan}
use Rattle.chart_plan.specs.Selections.{place_word}
use Rattle.chart_meaning.specs.Items.{InPlot, unit_items}
use Rattle.chart_meaning.specs.Parts.{Copy, GridSpot, spot_at}
use Rattle.chart_meaning.specs.Scales.{scale_in, size_in}

-- ---- axes

-- whether a panel is at the edge for axes of a channel: of x below, of y in the first column
abbrev pub is_at_edge : ℕ → GridSpot → Bool
is_at_edge channel spot = if channel == Y then spot.is_first_column else spot.is_last_row

abbrev pub is_among : List ℕ → ℕ → Bool
is_among numbers n = list_any (λ m. m == n) numbers

-- whether the facet of a spot isn't one of these, or the spot is at its edge
abbrev pub stands_at : ℕ → List ℕ → GridSpot → Bool
stands_at channel edges spot = not (is_among edges spot.facet) || is_at_edge channel spot

-- the channel of the scale of a number
abbrev pub channel_of : List ScalePlan → ℕ → ℕ
channel_of scales number = option_map_or (λ (s : ScalePlan). s.channel) (slice_get scales number) X

-- whether an axis stands in a copy: the copy is at the edge of each facet that shares the axis
abbrev pub stands : List ScalePlan → Copy → AxisPlan → Bool
stands scales copy a = list_all (stands_at (channel_of scales a.scale) a.edges) copy.spots

abbrev pub axis_in : InPlot → AxisPlan → AxisShown
axis_in plot a = record { axis = a.axis; scale = plot.scale a.scale }

-- the axes that stand in a plot, each over its scale
abbrev pub axes_in : List ScalePlan → Copy → InPlot → List AxisPlan → List AxisShown
axes_in scales copy plot axes = map (axis_in plot) (filter (stands scales copy) axes)

-- ---- what drags invert

-- the name under which the scale stands that a drag of a selection inverts along a channel; no name of a selection has a point in it
abbrev pub drag_name : List ℕ → List ℕ → List ℕ
drag_name selection channel = selection ++ codes "." ++ channel

-- such a scale of a plot, whose panel isn't known before the plot is placed
abbrev pub drag_under : InPlot → List ℕ → DragPlan → List ℕ → ScaleIn
drag_under plot selection d word = record { panel = None; name = drag_name selection word; scale = plot.scale d.scale }

abbrev pub drag_in : InPlot → ℕ → List ℕ → DragPlan → Option ScaleIn
drag_in plot number selection d = if d.plot == number then option_map (drag_under plot selection d) (place_word d.channel) else None

abbrev pub drags_of : InPlot → ℕ → SelectionPlan → List ScaleIn
drags_of plot number s = filter_map (drag_in plot number s.kept.name) s.drags

-- the scales that drags in a plot invert
abbrev pub drags_in : List SelectionPlan → InPlot → ℕ → List ScaleIn
drags_in selections plot number = flat_map (drags_of plot number) selections

-- ---- plots

-- the items of the units of a plot, by their numbers
abbrev pub items_of_unit : List UnitPlan → Copy → InPlot → ℕ → Option (List Item)
items_of_unit units copy plot number = option_map_or (λ u. unit_items plot u (copy.rows number)) (slice_get units number) (Some [])

abbrev pub items_in : List UnitPlan → Copy → InPlot → List ℕ → Option (List Item)
items_in units copy plot numbers = option_map (flat_map (λ items. items)) (all_found (map (items_of_unit units copy plot) numbers))

-- the least number of its units, which rise
abbrev pub least_unit : List ℕ → Option ℕ
least_unit numbers = slice_get numbers 0

-- a plot with its axes and items; the legends of scales stand with the copies to which the scales belong
abbrev pub plot_with : Plan → Copy → PlotPlan → InPlot → Axes → List Item → Plot
plot_with p copy plot here axes items = record {
  width = here.width;
  height = here.height;
  title = plot.title;
  headers = copy.headers;
  axes = axes;
  items = items;
  view = least_unit plot.units;
  cells = copy.cells;
  legends = [];
  scales = drags_in p.selections here plot.number;
}

-- a plot of this size in a copy
abbrev pub plot_here : Plan → Values → Copy → ℤ → ℤ → InPlot
plot_here p values copy width height =
    record { width = width; height = height; scale = scale_in p.scales width height copy; values = values }

abbrev pub plot_drawn : Plan → Copy → PlotPlan → InPlot → Option Plot
plot_drawn p copy plot here = do
  axes ← axes_at here.width here.height (axes_in p.scales copy here plot.axes)
  items ← items_in p.units copy here plot.units
  Some (plot_with p copy plot here axes items)

-- The plot of a copy, with all that is drawn in it. None where its size, a tick, a place or a condition is out of range.
abbrev pub plot_in : Plan → Values → Copy → PlotPlan → Option Plot
plot_in p values copy plot = do
  width ← size_in p.scales copy plot.width
  height ← size_in p.scales copy plot.height
  plot_drawn p copy plot (plot_here p values copy width height)

-- The rules at work.

-- the third of five panels in three columns, of the facet 7: an axis of x stands there, and one of y doesn't
at_edges : (stands_at X (7 ∷ []) (spot_at 7 3 5 2) ≡ true) × (stands_at Y (7 ∷ []) (spot_at 7 3 5 2) ≡ false)
    × (stands_at Y (4 ∷ []) (spot_at 7 3 5 2) ≡ true) × (stands_at X (7 ∷ []) (spot_at 7 3 5 1) ≡ false)
at_edges = (refl, refl, refl, refl)

names_of_drags : drag_name (codes "brush") (codes "x") ≡ codes "brush.x"
names_of_drags = refl
