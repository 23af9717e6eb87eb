-- Axes and legends, with all of their members written. An axis along x stands at the last row of the facets that its scale is shared in, one along y at the
-- first column; outside facets that holds everywhere.
use Rattle.std.specs.Prelude.{◌≡◌, refl, ℕ, ◌==◌, ◌*◌, Bool, ℤ, pos, neg_ℤ, Option, Some, None, List, codes, if◌then◌else◌, slice_get}
use Rattle.std.specs.Option.{option_map, option_map_or}
use Rattle.fixed_num.specs.Number.{million}
use Rattle.vega_spec.specs.declared.guides.Axis.{Axis}
use Rattle.vega_spec.specs.declared.guides.Edge.{Edge}
use Rattle.vega_spec.specs.declared.guides.Edge.TheVariants.{LastRow, FirstColumn}
use Rattle.vega_spec.specs.declared.guides.Legend.{Legend}
use Rattle.vega_spec.specs.declared.guides.Side.{Side}
use Rattle.vega_spec.specs.declared.guides.Side.TheVariants as side
use Rattle.vl_normalize.specs.declared.codes.TheConstants.{X, Y, COLOR, OPACITY, SIZE, SHAPE}
use Rattle.guide_kit.specs.declared.axes.AxisOf.{AxisOf}
use Rattle.guide_kit.specs.declared.frames.Side.{Side as EdgeOf}
use Rattle.guide_kit.specs.declared.frames.Side.TheVariants as at
use Rattle.guide_kit.specs.declared.legends.LegendOf.{LegendOf}
use Rattle.plan_kit.specs.declared.plots.AxisPlan.{AxisPlan}
use Rattle.plan_kit.specs.declared.scales.ScalePlan.{ScalePlan}
use Rattle.vega_assemble.specs.Names.{scale_name}
use Rattle.vega_assemble.specs.Steps.{counted}

-- ---- axes

abbrev pub side_written : EdgeOf → Side
side_written at.Bottom = side.Bottom
side_written at.Top = side.Top
side_written at.Left = side.Left
side_written at.Right = side.Right

abbrev pub angle_written : Bool → ℤ
angle_written turned = if turned then neg_ℤ (pos (90 * million)) else pos 0

abbrev pub edge_along : ℕ → Edge
edge_along channel = if channel == Y then FirstColumn else LastRow

-- the channel of the scale of a number
abbrev pub channel_of : List ScalePlan → ℕ → ℕ
channel_of scales number = option_map_or (λ (s : ScalePlan). s.channel) (slice_get scales number) X

abbrev pub axis_over : List ℕ → ℕ → AxisOf → Axis
axis_over scale channel a = record {
  scale = scale;
  orient = side_written a.side;
  title = a.title;
  labels = Some a.labels;
  ticks = Some a.ticks;
  domain = Some a.line;
  grid = Some a.grid;
  label_angle = Some (angle_written a.turned);
  tick_count = option_map counted a.count;
  values = a.values;
  format = a.format;
  edge = Some (edge_along channel);
}

abbrev pub axis_written : List ℕ → List ScalePlan → AxisPlan → Axis
axis_written stem scales a = axis_over (scale_name stem scales a.scale) (channel_of scales a.scale) a.axis

-- ---- legends

-- the name of a scale, in the channel that shows it
abbrev pub name_if : Bool → List ℕ → Option (List ℕ)
name_if shows name = if shows then Some name else None

abbrev pub legend_over : List ℕ → LegendOf → Legend
legend_over scale l = record {
  fill = name_if (l.channel == COLOR) scale;
  opacity = name_if (l.channel == OPACITY) scale;
  shape = name_if (l.channel == SHAPE) scale;
  size = name_if (l.channel == SIZE) scale;
  title = l.title;
  format = l.format;
}

-- the legend of a scale by its number, if it has one
abbrev pub legend_written : List ℕ → List ScalePlan → ℕ × ScalePlan → Option Legend
legend_written stem scales s = option_map (legend_over (scale_name stem scales s.0)) s.1.legend

-- The rules at work.

edges : (edge_along X ≡ LastRow) × (edge_along Y ≡ FirstColumn)
edges = (refl, refl)

a_legend_of_sizes : legend_over (codes "size_2") (record { channel = SIZE; title = None; format = None; colour = codes "#4c78a8" })
    ≡ record { fill = None; opacity = None; shape = None; size = Some (codes "size_2"); title = None; format = None }
a_legend_of_sizes = refl
