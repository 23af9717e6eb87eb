-- The marks of units. A mark of a unit is one over the unit's rows: a rect with both ends along x and y, a sign, a text, a rule, a line or an area. Its
-- colour is that of its line or of what is inside. A sign that has no line has one of width 1 all the same, since that is what other items without a
-- line have. A path goes by its order; with series it stands in a group that has a copy for each combination of them.
use Rattle.std.specs.Prelude.{◌≡◌, refl, ℕ, Bool, true, false, ℤ, pos, Option, Some, None, List, [], ◌∷◌, codes, if◌then◌else◌}
use Rattle.std.specs.Option.{option_map, option_and_then}
use Rattle.fixed_num.specs.Number.{million}
use Rattle.vega_spec.specs.declared.encode.Channel.{Channel}
use Rattle.vega_spec.specs.declared.encode.Channels.{Channels}
use Rattle.vega_spec.specs.declared.encode.Encode.{Encode}
use Rattle.vega_spec.specs.declared.marks.Facet.{Facet}
use Rattle.vega_spec.specs.declared.marks.MarkFrom.TheVariants as from
use Rattle.vega_spec.specs.declared.marks.MarkType.{MarkType}
use Rattle.vega_spec.specs.declared.marks.MarkType.TheVariants as mark
use Rattle.vega_spec.specs.declared.orders.Sort.{Sort}
use Rattle.vega_spec.specs.declared.orders.Texts.TheVariants as texts
use Rattle.vl_spec.specs.declared.marks.Align.{Align}
use Rattle.vl_spec.specs.declared.marks.Align.TheVariants as align
use Rattle.vl_spec.specs.declared.marks.Baseline.{Baseline}
use Rattle.vl_spec.specs.declared.marks.Baseline.TheVariants as baseline
use Rattle.vl_normalize.specs.declared.codes.TheConstants.{X, Y}
use Rattle.plan_kit.specs.declared.marks.MarkPlan.{MarkPlan}
use Rattle.plan_kit.specs.declared.marks.MarkShape.{MarkShape}
use Rattle.plan_kit.specs.declared.marks.MarkShape.TheVariants as shape
use Rattle.plan_kit.specs.declared.marks.TextLook.{TextLook}
use Rattle.plan_kit.specs.declared.plans.UnitPlan.{UnitPlan}
use Rattle.plan_kit.specs.declared.scales.ScalePlan.{ScalePlan}
use Rattle.vega_assemble.specs.Channels.{alone, end_channel, look_channel, words_channel, number_value, text_value}
use Rattle.vega_assemble.specs.Made.{MadeMark, AMark, AGroup, NoMarks, Made, bare_object}
use Rattle.vega_assemble.specs.Names.{unit_name, mark_name}

-- ---- parts

abbrev pub type_of : MarkShape → MarkType
type_of shape.Rect = mark.Rect
type_of shape.Symbol = mark.Symbol
type_of shape.Line = mark.Line
type_of shape.Area = mark.Area
type_of shape.Rule = mark.Rule
type_of shape.Text = mark.Text

-- the colour inside, and that of the line
abbrev pub if_filled : Bool → Option Channel → Option Channel
if_filled stroked color = if stroked then None else color

abbrev pub if_stroked : Bool → Option Channel → Option Channel
if_stroked stroked color = if stroked then color else None

-- the width of a line where none is said
abbrev pub plain_width : MarkShape → Option ℤ
plain_width shape.Rect = None
plain_width shape.Symbol = Some (pos million)
plain_width shape.Line = None
plain_width shape.Area = None
plain_width shape.Rule = None
plain_width shape.Text = None

abbrev pub number_alone : ℤ → Option Channel
number_alone n = alone (number_value n)

abbrev pub width_channel : MarkShape → Option ℤ → Option Channel
width_channel form None = option_and_then number_alone (plain_width form)
width_channel form (Some width) = number_alone width

-- how a text stands
abbrev pub align_word : Align → List ℕ
align_word align.Left = codes "left"
align_word align.Center = codes "center"
align_word align.Right = codes "right"

abbrev pub baseline_word : Baseline → List ℕ
baseline_word baseline.Top = codes "top"
baseline_word baseline.Middle = codes "middle"
baseline_word baseline.Bottom = codes "bottom"
baseline_word baseline.Alphabetic = codes "alphabetic"

abbrev pub align_channel : TextLook → Option Channel
align_channel t = alone (text_value (align_word t.align))

abbrev pub baseline_channel : TextLook → Option Channel
baseline_channel t = alone (text_value (baseline_word t.baseline))

abbrev pub dx_channel : TextLook → Option Channel
dx_channel t = number_alone t.dx

abbrev pub dy_channel : TextLook → Option Channel
dy_channel t = number_alone t.dy

abbrev pub font_channel : TextLook → Option Channel
font_channel t = number_alone t.size

-- ---- marks

-- what a mark shows
abbrev pub channels_of : List ℕ → List ScalePlan → MarkPlan → Channels
channels_of stem scales m = record {
  x = end_channel stem scales X m.across.near;
  x2 = end_channel stem scales X m.across.far;
  xc = None;
  width = None;
  y = end_channel stem scales Y m.down.near;
  y2 = end_channel stem scales Y m.down.far;
  yc = None;
  height = None;
  fill = if_filled m.stroked (look_channel stem scales m.color);
  stroke = if_stroked m.stroked (look_channel stem scales m.color);
  stroke_width = width_channel m.shape m.line_width;
  opacity = look_channel stem scales m.opacity;
  size = look_channel stem scales m.size;
  shape = look_channel stem scales m.sign;
  text = words_channel m.words;
  align = option_and_then align_channel m.text;
  baseline = option_and_then baseline_channel m.text;
  dx = option_and_then dx_channel m.text;
  dy = option_and_then dy_channel m.text;
  font_size = option_and_then font_channel m.text;
}

abbrev pub encode_of : List ℕ → List ScalePlan → MarkPlan → Encode
encode_of stem scales m = record { enter = None; update = Some (channels_of stem scales m) }

-- the order of a path
abbrev pub by_field : List ℕ → Sort
by_field field = record { field = texts.One field; order = None }

-- the mark of a unit
abbrev pub mark_of : List ℕ → List ScalePlan → UnitPlan → MadeMark
mark_of stem scales u = record {
  type = type_of u.mark.shape;
  name = mark_name stem u.number;
  from = unit_name stem u.number;
  encode = encode_of stem scales u.mark;
  sort = option_map by_field u.mark.order;
}

-- the parts of a unit's rows that have a path each
abbrev pub series_facet : List ℕ → UnitPlan → Facet
series_facet stem u = record {
  name = texts.One (unit_name stem u.number);
  data_ = texts.One (unit_name stem u.number);
  groupby = u.mark.series;
  aggregate = None;
  headers = None;
}

-- a mark before others: with series in a group for each of them
abbrev pub in_series : List ℕ → List ScalePlan → UnitPlan → List (List ℕ) → Made → Made
in_series stem scales u [] others = AMark (mark_of stem scales u) others
in_series stem scales u (first ∷ more) others =
    AGroup (record bare_object { facet = Some (series_facet stem u) }) (AMark (mark_of stem scales u) NoMarks) others

abbrev pub unit_before : List ℕ → List ScalePlan → UnitPlan → Made → Made
unit_before stem scales u others = in_series stem scales u u.mark.series others

-- The rules at work.

widths_of_lines : (width_channel shape.Rect None ≡ None) × (width_channel shape.Symbol None ≡ number_alone (pos million))
    × (width_channel shape.Line (Some (pos 5)) ≡ number_alone (pos 5))
widths_of_lines = (refl, refl, refl)

colors_of_lines : (c : Option Channel) → (if_filled true c ≡ None) × (if_stroked true c ≡ c) × (if_filled false c ≡ c) × (if_stroked false c ≡ None)
colors_of_lines c = (refl, refl, refl, refl)
