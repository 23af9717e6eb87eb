-- The views of a chart as they are laid out. Plots stand as boxes with their extents; a grid has the views in it side by side and below each other, in as
-- many columns as it says: of joined views each, of a faceted view its copy in each panel. A legend stands for each scale of color, opacity, shape and size,
-- by channel, then by the facet that makes the scale independent, where the chart comes first, then by first view, then by panel; it is drawn for each copy to
-- which the scale belongs that has at least one plot. The count of panels is that of the plots that stand inside faceted views.
use Rattle.std.specs.Prelude.{◌≡◌, refl, ℕ, ◌+◌, ◌==◌, pos, Option, Some, None, List, [], ◌∷◌, ◌++◌, map, flat_map, length, is_some, slice_get}
use Rattle.std.specs.Prelude.{unwrap_or, if◌then◌else◌}
use Rattle.std.specs.List.{filter_map, sum}
use Rattle.std.specs.Option.{option_map, option_map_or}
use Rattle.fixed_num.specs.Number.{million}
use Rattle.fixed_num.specs.Ranges.{◌>>=◌, all_found}
use Rattle.cell_value.specs.Datum.{Datum}
use Rattle.scale_kit.specs.declared.scale.Scale.{Scale}
use Rattle.expr_eval.specs.Values.{Values}
use Rattle.vl_normalize.specs.declared.codes.TheConstants.{COLOR, OPACITY, SHAPE}
use Rattle.guide_kit.specs.declared.legends.LegendOf.{LegendOf}
use Rattle.plot_scenes.specs.declared.legends.LegendShown.{LegendShown}
use Rattle.plot_scenes.specs.declared.scenes.Drawing.{Drawing}
use Rattle.plot_scenes.specs.declared.views.GridShown.{GridShown}
use Rattle.plot_scenes.specs.declared.views.Placed.{Placed}
use Rattle.plot_scenes.specs.Scenes.{drawing_with}
use Rattle.plot_scenes.specs.Views.{placed_plot, placed_grid}
use Rattle.plan_kit.specs.declared.grids.GridPlan.{GridPlan}
use Rattle.plan_kit.specs.declared.plan.Plan.{Plan}
use Rattle.plan_kit.specs.declared.plots.PlotPlan.{PlotPlan}
use Rattle.plan_kit.specs.declared.scales.ScalePlan.{ScalePlan}
use Rattle.plan_kit.specs.declared.sizes.SizePlan.TheVariants.{Pixels}
use Rattle.plan_kit.specs.declared.views.ViewPlan.{ViewPlan-F, fold-ViewPlan}
use Rattle.plan_kit.specs.declared.views.ViewPlan.TheOpen as level
use Rattle.chart_meaning.specs.Domains.{with_domains, scales_held}
use Rattle.chart_meaning.specs.Parameters.{keeps_all, Settled}
use Rattle.chart_meaning.specs.Parts.{Copy, copies_in, columns_of, a_copy, by_a}
use Rattle.chart_meaning.specs.Plots.{plot_in}
use Rattle.chart_meaning.specs.Scales.{scale_in}

-- ---- views

-- Views that follow each other: none; a plot, and then others; or a grid with the views in it, and then others. A faceted view has one view in it.
pub data Views : Type 0 where
  NoViews : Views
  APlot : PlotPlan → Views → Views
  AGrid : GridPlan → Views → Views → Views

-- what a view puts before the views behind it
abbrev pub Before : Type 0
Before = Views → Views

abbrev pub in_a_row : List Before → Views
in_a_row [] = NoViews
in_a_row (first ∷ others) = first (in_a_row others)

-- a plot and a grid by their places among the plots and the grids of the plan, which are there; their own numbers are those of views
abbrev pub view_here : Plan → ViewPlan-F Before → Before
view_here p (level.Plot number) others = option_map_or (λ plot. APlot plot others) (slice_get p.plots number) others
view_here p (level.Grid number inside) others = option_map_or (λ grid. AGrid grid (in_a_row inside) others) (slice_get p.grids number) others

-- the view of a plan, alone
abbrev pub views_of : Plan → Views
views_of p = fold-ViewPlan Before (view_here p) p.view NoViews

-- ---- panels

-- how many plots there are in a copy that stand inside faceted views
abbrev pub panel_here : Copy → ℕ
panel_here copy = if is_some copy.cells then 1 else 0

abbrev pub plots_in_facets : Views → Copy → ℕ
plots_in_facets NoViews copy = 0
plots_in_facets (APlot plot others) copy = panel_here copy + plots_in_facets others copy
plots_in_facets (AGrid grid inside others) copy =
    sum (map (λ part. plots_in_facets inside part) (copies_in grid copy)) + plots_in_facets others copy

-- ---- copies with their domains

-- a copy of what a grid shows, with the domains of the scales that belong to its facet; joined views stand in the copy round them, which has its scales
-- by now
abbrev pub part_drawn : Plan → Values → GridPlan → Copy → Option Copy
part_drawn p values grid part =
    if is_some grid.facet then with_domains p.scales values (Some grid.number) part else Some part

-- the copies of the views in a grid, with the domains of their scales; None where one is out of range
abbrev pub copies_drawn : Plan → Values → GridPlan → Copy → Option (List Copy)
copies_drawn p values grid copy = all_found (map (part_drawn p values grid) (copies_in grid copy))

-- ---- legends

-- the place of a channel among those of legends
abbrev pub legend_place : ℕ → ℕ
legend_place channel =
    if channel == COLOR then 0
    else (if channel == OPACITY then 1
    else (if channel == SHAPE then 2 else 3))

-- the place of the facet to which a scale belongs, and of the chart
abbrev pub holder_place : Option ℕ → ℕ
holder_place holder = option_map_or (λ facet. facet + 1) holder 0

-- the legend of a scale, if it has one
abbrev pub legend_with : ScalePlan → Scale → LegendOf → LegendShown
legend_with s scale l = record {
  channel = legend_place s.channel;
  object = holder_place s.holder;
  index = unwrap_or (slice_get s.units 0) 0;
  legend = l;
  scale = scale;
}

-- scales of looks don't depend on the size of a plot
abbrev pub legend_in : Plan → Copy → ℕ × ScalePlan → Option LegendShown
legend_in p copy numbered = option_map (legend_with numbered.1 (scale_in p.scales (pos 0) (pos 0) copy numbered.0)) numbered.1.legend

-- the legends of the scales that belong to a copy
abbrev pub legends_in : Plan → Option ℕ → Copy → List LegendShown
legends_in p holder copy = filter_map (legend_in p copy) (scales_held p.scales holder)

-- a view of a copy with these legends, where a plot stands in it
abbrev pub with_legends : List LegendShown → Placed → Placed
with_legends legends view = record view { legends = (if view.has_plot then legends else []) ++ view.legends }

-- ---- layout

-- a grid without what stands in it
abbrev pub grid_shown : GridPlan → ℕ → GridShown
grid_shown grid columns = record { columns = columns; spacing = grid.spacing; title = grid.title; legends = [] }

-- a grid round its cells, in a copy
abbrev pub grid_round : GridPlan → Copy → List Placed → Placed
grid_round grid copy cells = placed_grid (grid_shown grid (columns_of grid copy (length cells))) cells

-- the views in a part of a grid with the legends that belong to it
abbrev pub part_legends : Plan → GridPlan → Copy → List LegendShown
part_legends p grid part = if is_some grid.facet then legends_in p (Some grid.number) part else []

-- Views in a copy, one after the other. None where a number is out of range.
abbrev pub placed : Plan → Values → Views → Copy → Option (List Placed)
placed p values NoViews copy = Some []
placed p values (APlot plot others) copy = do
  first ← plot_in p values copy plot
  rest ← placed p values others copy
  Some (placed_plot first ∷ rest)
placed p values (AGrid grid inside others) copy = do
  parts ← copies_drawn p values grid copy
  cells ← all_found (map (λ part. option_map (map (with_legends (part_legends p grid part))) (placed p values inside part)) parts)
  rest ← placed p values others copy
  Some (grid_round grid copy (flat_map (λ views. views) cells) ∷ rest)

-- ---- the whole

-- The chart itself with the domains of the scales that belong to it. None where one is out of range, or a parameter is lost.
abbrev pub chart_drawn : Plan → Settled → Values → Copy → Option Copy
chart_drawn p settled values copy = if keeps_all settled then with_domains p.scales values None copy else None

-- What is drawn of the chart itself: its one view with the legends of the chart, and the padding all round.
abbrev pub drawing_of : Plan → Values → Copy → Option Drawing
drawing_of p values copy = do
  views ← placed p values (views_of p) copy
  top ← slice_get views 0
  drawing_with p.padding [] (with_legends (legends_in p None copy) top)

-- All that is drawn once the lists are made. None where a parameter is lost, or a domain, place, tick or condition is out of range.
abbrev pub drawing_over : Plan → Settled → Values → Copy → Option Drawing
drawing_over p settled values copy = do
  whole ← chart_drawn p settled values copy
  drawing_of p values whole

-- ---- rows of units

-- the rows of a unit in a plot that draws these units; none where it isn't among them
abbrev pub rows_here : ℕ → List ℕ → Copy → List Datum
rows_here unit units copy = flat_map (λ number. if number == unit then copy.rows number else []) units

-- The rows of a unit in views of a copy: panel after panel. None where a domain is out of range.
abbrev pub rows_drawn : Plan → Values → ℕ → Views → Copy → Option (List Datum)
rows_drawn p values unit NoViews copy = Some []
rows_drawn p values unit (APlot plot others) copy = option_map (λ rest. rows_here unit plot.units copy ++ rest) (rows_drawn p values unit others copy)
rows_drawn p values unit (AGrid grid inside others) copy = do
  parts ← copies_drawn p values grid copy
  rows ← all_found (map (λ part. rows_drawn p values unit inside part) parts)
  rest ← rows_drawn p values unit others copy
  Some (flat_map (λ part. part) rows ++ rest)

-- those in the whole chart; None where something is out of range
abbrev pub rows_over : Plan → Settled → Values → ℕ → Copy → Option (List Datum)
rows_over p settled values unit copy = do
  whole ← chart_drawn p settled values copy
  rows_drawn p values unit (views_of p) whole

-- The rules at work.

abbrev a_plot : PlotPlan
a_plot = record {
  number = 1;
  units = 0 ∷ [];
  facets = [];
  title = None;
  width = Pixels (pos million);
  height = Pixels (pos million);
  axes = [];
}

-- a plot beside a facet with three panels of two plots each
abbrev some_views : Views
some_views = APlot a_plot (AGrid by_a (AGrid (record by_a { facet = None }) (APlot a_plot (APlot a_plot NoViews)) NoViews) NoViews)

six_plots_in_facets : plots_in_facets some_views a_copy ≡ 6
six_plots_in_facets = refl

places_of_legends : (map legend_place (COLOR ∷ OPACITY ∷ SHAPE ∷ 6 ∷ []) ≡ 0 ∷ 1 ∷ 2 ∷ 3 ∷ []) × (holder_place None ≡ 0) × (holder_place (Some 0) ≡ 1)
places_of_legends = (refl, refl, refl)
