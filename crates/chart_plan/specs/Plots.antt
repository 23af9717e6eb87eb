-- The plots of a chart: each unit is drawn in one, by itself or in the outermost layer round it within the innermost facet and joined views. A plot has
-- the title of its own view, else that of the first view in it that has one, from the outside in and in the order of the text. Its size along x goes
-- by the scale of its first unit which shows something there, else by the scale that stands there for its first unit alone, of one null. It has an axis
-- for each scale of x, and then for each of y, on which something is shown in it that counts for an axis. Facets round the plot that share such a scale
-- among their panels have the axis at their edge alone: one of x where no panel is below, one of y in the first column.
use Rattle.std.specs.Prelude.{ℕ, ◌==◌, Bool, true, false, nat_le, nat_lt, Option, Some, None, List, [], ◌∷◌, ◌++◌, filter, find, flat_map, length, map}
use Rattle.std.specs.Prelude.{if◌then◌else◌}
use Rattle.std.specs.Option.{option_and_then, option_map_or, option_or}
use Rattle.std.specs.List.{enumerate_from, filter_map, fold, list_any}
use Rattle.vl_normalize.specs.declared.codes.TheConstants.{X, Y}
use Rattle.vl_spec.specs.declared.definitions.Definition.{Definition}
use Rattle.vl_spec.specs.declared.sizes.ConfigView.{ConfigView}
use Rattle.vl_spec.specs.declared.sizes.Size.{Size}
use Rattle.vl_compose.specs.Rounds.{ViewAt, Round}
use Rattle.vl_compose.specs.Units.{UnitAt}
use Rattle.vl_compose.specs.Views.{facets_of, plot_of}
use Rattle.unit_plan.specs.declared.seen.ScaleSeen.{ScaleSeen}
use Rattle.unit_plan.specs.Seen.{seen_at}
use Rattle.plan_kit.specs.declared.plots.AxisPlan.{AxisPlan}
use Rattle.plan_kit.specs.declared.plots.PlotPlan.{PlotPlan}
use Rattle.plan_kit.specs.declared.scales.ScalePlan.{ScalePlan}
use Rattle.plan_kit.specs.declared.sizes.SizePlan.{SizePlan}
use Rattle.guide_infer.specs.Axes.{axis_by, is_continuous}
use Rattle.guide_infer.specs.First.{first_given}
use Rattle.guide_infer.specs.Said.{is_bare, with_axes}
use Rattle.chart_plan.specs.Scales.{seen_by}
use Rattle.chart_plan.specs.Shown.{shown_in}
use Rattle.chart_plan.specs.Sizes.{size_of}

-- ---- units and views of a plot

-- whether a unit is drawn in the plot of a number
abbrev pub is_in : ℕ → UnitAt → Bool
is_in plot unit = plot_of unit.round == plot

-- numbers with one more, unless it is there
abbrev pub with_number : List ℕ → ℕ → List ℕ
with_number numbers n = if list_any (λ m. m == n) numbers then numbers else numbers ++ n ∷ []

abbrev pub with_plot : List ℕ → UnitAt → List ℕ
with_plot numbers unit = with_number numbers (plot_of unit.round)

-- the numbers of the plots of some units, each where its first unit stands
abbrev pub plot_numbers : List UnitAt → List ℕ
plot_numbers units = fold with_plot [] units

-- the title of a view that is the plot's own or in it: views round it have lesser numbers
abbrev pub title_at : ℕ → ViewAt → Option (List ℕ)
title_at plot v = if nat_le plot v.number then v.title else None

abbrev pub unit_title : ℕ → UnitAt → Option (List ℕ)
unit_title plot unit = if is_in plot unit then first_given (title_at plot) unit.round else None

-- the title of a plot
abbrev pub title_of : ℕ → List UnitAt → Option (List ℕ)
title_of plot units = first_given (unit_title plot) units

-- ---- sizes

-- what a view says of a width, or of a height
abbrev pub size_said : ℕ → ViewAt → Option Size
size_said channel v = if channel == X then v.width else v.height

abbrev pub size_at : ℕ → ℕ → ViewAt → Option Size
size_at channel plot v = if nat_le plot v.number then size_said channel v else None

abbrev pub unit_sizes : ℕ → ℕ → UnitAt → List Size
unit_sizes channel plot unit = if is_in plot unit then filter_map (size_at channel plot) unit.round else []

-- the sizes that the views of a plot say, from the outside in and in the order of the text
abbrev pub sizes_said : ℕ → ℕ → List UnitAt → List Size
sizes_said channel plot units = flat_map (unit_sizes channel plot) units

-- the scale of a unit's channel, if something is shown on it
abbrev pub if_shown : ScaleSeen → Option ScaleSeen
if_shown scale = if scale.alone then None else Some scale

abbrev pub scale_seen : ℕ → List ScalePlan → UnitAt → Option ScaleSeen
scale_seen channel scales unit = seen_at (seen_by scales unit.number) channel

abbrev pub shown_scale : ℕ → List ScalePlan → UnitAt → Option ScaleSeen
shown_scale channel scales unit = option_and_then if_shown (scale_seen channel scales unit)

-- the same in a plot
abbrev pub scale_in_plot : ℕ → ℕ → List ScalePlan → UnitAt → Option ScaleSeen
scale_in_plot channel plot scales unit = if is_in plot unit then scale_seen channel scales unit else None

abbrev pub shown_in_plot : ℕ → ℕ → List ScalePlan → UnitAt → Option ScaleSeen
shown_in_plot channel plot scales unit = if is_in plot unit then shown_scale channel scales unit else None

-- the scale by which the size of a plot goes
abbrev pub scale_of_plot : ℕ → ℕ → List ScalePlan → List UnitAt → Option ScaleSeen
scale_of_plot channel plot scales units =
    option_or (first_given (shown_in_plot channel plot scales) units) (first_given (scale_in_plot channel plot scales) units)

abbrev pub size_on : ℕ → Option ConfigView → List Size → Option ScaleSeen → SizePlan
size_on channel config sizes None = size_of channel false 0 config sizes
size_on channel config sizes (Some scale) = size_of channel (is_continuous scale.kind) scale.number config sizes

abbrev pub plot_size : ℕ → ℕ → Option ConfigView → List ScalePlan → List UnitAt → SizePlan
plot_size channel plot config scales units = size_on channel config (sizes_said channel plot units) (scale_of_plot channel plot scales units)

-- ---- axes

-- what a unit in a plot shows on a scale, and what all of them show that counts for an axis
abbrev pub unit_shows : ℕ → ScalePlan → UnitAt → List Definition
unit_shows plot scale unit = if is_in plot unit then shown_in scale.channel scale.units unit else []

abbrev pub all_shows : ℕ → ScalePlan → List UnitAt → List Definition
all_shows plot scale units = flat_map (unit_shows plot scale) units

abbrev pub axis_definitions : ℕ → ScalePlan → List UnitAt → List Definition
axis_definitions plot scale units = with_axes (all_shows plot scale units)

-- the facets that share a scale among their panels: those inside the one to which it belongs
abbrev pub is_behind : Option ℕ → ℕ → Bool
is_behind None facet = true
is_behind (Some holder) facet = nat_lt holder facet

abbrev pub edges_of : Option ℕ → List ℕ → List ℕ
edges_of holder facets = filter (is_behind holder) facets

-- an axis behind those that are drawn before it, by the definitions that count for it; none where there are none
abbrev pub axis_plan : List ℕ → ℕ → ScalePlan → ℕ → List Definition → AxisPlan
axis_plan facets number scale before definitions = record {
  scale = number;
  axis = axis_by scale.channel scale.kind before definitions;
  edges = edges_of scale.holder facets;
}

abbrev pub and_axis : List ℕ → ℕ → ScalePlan → List AxisPlan → List Definition → List AxisPlan
and_axis facets number scale axes definitions =
    if is_bare definitions then axes else axes ++ axis_plan facets number scale (length axes) definitions ∷ []

abbrev pub with_axis : ℕ → ℕ → List ℕ → List UnitAt → List AxisPlan → ℕ × ScalePlan → List AxisPlan
with_axis channel plot facets units axes scale =
    if scale.1.channel == channel then and_axis facets scale.0 scale.1 axes (axis_definitions plot scale.1 units) else axes

-- the axes of a plot along a channel, those of scales with lesser numbers first
abbrev pub axes_along : ℕ → ℕ → List ℕ → List ScalePlan → List UnitAt → List AxisPlan
axes_along channel plot facets scales units = fold (with_axis channel plot facets units) [] (enumerate_from 0 scales)

abbrev pub axes_of : ℕ → List ℕ → List ScalePlan → List UnitAt → List AxisPlan
axes_of plot facets scales units = axes_along X plot facets scales units ++ axes_along Y plot facets scales units

-- ---- plots

-- the numbers of the units of a plot
abbrev pub number_in : ℕ → UnitAt → Option ℕ
number_in plot unit = if is_in plot unit then Some unit.number else None

abbrev pub units_of_plot : ℕ → List UnitAt → List ℕ
units_of_plot plot units = filter_map (number_in plot) units

-- the numbers of the facets round it, the outer before the inner
abbrev pub numbers_of : Round → List ℕ
numbers_of views = map (λ (v : ViewAt). v.number) views

abbrev pub facet_numbers : Round → List ℕ
facet_numbers round = numbers_of (facets_of round)

abbrev pub plot_facets : ℕ → List UnitAt → List ℕ
plot_facets plot units = option_map_or (λ (u : UnitAt). facet_numbers u.round) (find (is_in plot) units) []

-- the plot of a number, with these facets round it
abbrev pub plot_with : Option ConfigView → List ScalePlan → List UnitAt → ℕ → List ℕ → PlotPlan
plot_with config scales units plot facets = record {
  number = plot;
  units = units_of_plot plot units;
  facets = facets;
  title = title_of plot units;
  width = plot_size X plot config scales units;
  height = plot_size Y plot config scales units;
  axes = axes_of plot facets scales units;
}

abbrev pub plot_by : Option ConfigView → List ScalePlan → List UnitAt → ℕ → PlotPlan
plot_by config scales units plot = plot_with config scales units plot (plot_facets plot units)

-- the plots of some units
abbrev pub plots_of : Option ConfigView → List ScalePlan → List UnitAt → List PlotPlan
plots_of config scales units = map (plot_by config scales units) (plot_numbers units)
