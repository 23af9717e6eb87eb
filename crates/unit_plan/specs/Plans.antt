-- The plan of a unit: its steps over rows, and its mark.
use Rattle.std.specs.Prelude.{ℕ, ℤ, Bool, true, false, Some, None, List, [], if◌then◌else◌, unwrap_or}
use Rattle.std.specs.Option.{option_map_or}
use Rattle.vl_spec.specs.declared.marks.MarkType.{MarkType}
use Rattle.vl_spec.specs.declared.marks.MarkType.TheVariants as mark_type
use Rattle.vl_spec.specs.declared.params.ParamOf.{ParamOf}
use Rattle.vl_compose.specs.Units.{UnitAt}
use Rattle.vl_compose.specs.Views.{source_of}
use Rattle.plan_kit.specs.declared.marks.Along.{Along}
use Rattle.plan_kit.specs.declared.marks.MarkPlan.{MarkPlan}
use Rattle.plan_kit.specs.declared.marks.MarkShape.{MarkShape}
use Rattle.plan_kit.specs.declared.marks.MarkShape.TheVariants as shape
use Rattle.plan_kit.specs.declared.marks.TextLook.{TextLook}
use Rattle.plan_kit.specs.declared.plans.UnitPlan.{UnitPlan}
use Rattle.unit_plan.specs.declared.seen.ScaleSeen.{ScaleSeen}
use Rattle.unit_plan.specs.Bars.{bar_along}
use Rattle.unit_plan.specs.Lanes.{Lane, across, down}
use Rattle.unit_plan.specs.Looks.{mark_of, mark_said, stroked, line_width, color_in, opacity_in, size_in, sign_in}
use Rattle.unit_plan.specs.Paths.{line_along, area_along, order_of}
use Rattle.unit_plan.specs.Points.{point_along}
use Rattle.unit_plan.specs.Rects.{rect_along}
use Rattle.unit_plan.specs.Rows.{before, after}
use Rattle.unit_plan.specs.Rules.{rule_along}
use Rattle.unit_plan.specs.Selections.{is_selection}
use Rattle.unit_plan.specs.Stacks.{series_of}
use Rattle.unit_plan.specs.Texts.{words_in, plain_text, text_look_said}
use Rattle.unit_plan.specs.Ticks.{is_upright, half_across, half_down, tick_along}

-- the shape of the items of a mark
abbrev pub shape_of : MarkType → MarkShape
shape_of mark_type.Bar = shape.Rect
shape_of mark_type.Rect = shape.Rect
shape_of mark_type.Point = shape.Symbol
shape_of mark_type.Circle = shape.Symbol
shape_of mark_type.Square = shape.Symbol
shape_of mark_type.Line = shape.Line
shape_of mark_type.Area = shape.Area
shape_of mark_type.Tick = shape.Rect
shape_of mark_type.Rule = shape.Rule
shape_of mark_type.Text = shape.Text

-- the ends of a mark along a direction, in which half of a tick is so long
abbrev pub along : MarkType → (List ℕ → Bool) → ℤ → Lane → Along
along mark_type.Bar is_selection half lane = bar_along is_selection lane
along mark_type.Rect is_selection half lane = rect_along is_selection lane
along mark_type.Point is_selection half lane = point_along is_selection lane
along mark_type.Circle is_selection half lane = point_along is_selection lane
along mark_type.Square is_selection half lane = point_along is_selection lane
along mark_type.Line is_selection half lane = line_along is_selection lane
along mark_type.Area is_selection half lane = area_along is_selection lane
along mark_type.Tick is_selection half lane = tick_along is_selection half lane
along mark_type.Rule is_selection half lane = rule_along is_selection lane
along mark_type.Text is_selection half lane = point_along is_selection lane

-- which shapes have a size and a sign, words, and an order and series
abbrev pub is_symbol : MarkShape → Bool
is_symbol shape.Rect = false
is_symbol shape.Symbol = true
is_symbol shape.Line = false
is_symbol shape.Area = false
is_symbol shape.Rule = false
is_symbol shape.Text = false

abbrev pub is_text : MarkShape → Bool
is_text shape.Rect = false
is_text shape.Symbol = false
is_text shape.Line = false
is_text shape.Area = false
is_text shape.Rule = false
is_text shape.Text = true

abbrev pub is_path : MarkShape → Bool
is_path shape.Rect = false
is_path shape.Symbol = false
is_path shape.Line = true
is_path shape.Area = true
is_path shape.Rule = false
is_path shape.Text = false

-- how words stand
abbrev pub text_look : UnitAt → TextLook
text_look unit = option_map_or text_look_said (mark_said unit) plain_text

-- the mark of a unit, where it is known which names are selections
abbrev pub mark_plan : (List ℕ → Bool) → UnitAt → List ScaleSeen → MarkPlan
mark_plan is_selection unit scales = record {
  shape = shape_of (mark_of unit);
  across = along (mark_of unit) is_selection (half_across (is_upright unit)) (across unit scales);
  down = along (mark_of unit) is_selection (half_down (is_upright unit)) (down unit scales);
  stroked = stroked unit;
  line_width = line_width unit;
  color = color_in is_selection unit scales;
  opacity = opacity_in is_selection unit scales;
  size = if is_symbol (shape_of (mark_of unit)) then size_in is_selection unit scales else [];
  sign = sign_in is_selection unit scales;
  words = if is_text (shape_of (mark_of unit)) then words_in is_selection unit else [];
  text = if is_text (shape_of (mark_of unit)) then Some (text_look unit) else None;
  order = if is_path (shape_of (mark_of unit)) then order_of unit else None;
  series = if is_path (shape_of (mark_of unit)) then series_of unit else [];
}

-- the plan of a unit, by the parameters of its specification and the scales as it sees them
abbrev pub plan_by : (List ℕ → Bool) → UnitAt → List ScaleSeen → UnitPlan
plan_by is_selection unit scales = record {
  number = unit.number;
  source = unwrap_or (source_of unit.round) [];
  before = before is_selection unit;
  after = after unit;
  mark = mark_plan is_selection unit scales;
}

abbrev pub unit_plan_of : List ParamOf → UnitAt → List ScaleSeen → UnitPlan
unit_plan_of params unit scales = plan_by (is_selection params) unit scales
