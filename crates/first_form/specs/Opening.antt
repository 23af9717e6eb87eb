-- The Vega specification of a chart of the first form, and the state in which it opens.
use Rattle.std.specs.Prelude.{◌≡◌, refl, ℕ, ◌+◌, ◌*◌, not, pos, true, Option, Some, None, List, [], ◌∷◌, length, map, codes}
use Rattle.std.specs.List.{filter}
use Rattle.std.specs.Str.{bytes_eq}
use Rattle.fixed_num.specs.Number.{million}
use Rattle.case_table.specs.Names.{index_of, builtins}
use Rattle.cell_value.specs.declared.cell.Cell.{Cell}
use Rattle.cell_value.specs.declared.cell.Cell.TheVariants.{Null, Number, Text}
use Rattle.cell_value.specs.declared.state.Keyed.{Keyed}
use Rattle.cell_value.specs.declared.state.ChartState.{ChartState}
use Rattle.cell_value.specs.Row.{row_of}
use Rattle.cell_value.specs.Datum.{id_name}
use Rattle.json_exact.specs.declared.json.Json.{Json}
use Rattle.json_exact.specs.declared.json.Json.TheVariants as json
use Rattle.expr_syntax.specs.declared.expr.Expr.{Expr}
use Rattle.expr_syntax.specs.declared.expr.Expr.TheVariants as expr
use Rattle.expr_syntax.specs.declared.expr.BinOp.TheVariants.{Mul}
use Rattle.vega_spec.specs.declared.data.DataSet.{DataSet}
use Rattle.vega_spec.specs.declared.domains.Domain.TheVariants as domain
use Rattle.vega_spec.specs.declared.domains.DomainOrder.TheVariants as order
use Rattle.vega_spec.specs.declared.scales.Range.TheVariants as range
use Rattle.vega_spec.specs.declared.scales.Scale.{Scale}
use Rattle.vega_spec.specs.declared.encode.ChannelValue.{ChannelValue}
use Rattle.vega_spec.specs.declared.encode.Channel.{Channel}
use Rattle.vega_spec.specs.declared.encode.Channel.TheVariants.{One}
use Rattle.vega_spec.specs.declared.encode.Channels.{Channels}
use Rattle.vega_spec.specs.declared.encode.Encode.{Encode}
use Rattle.vega_spec.specs.declared.marks.MarkType.TheVariants as mark
use Rattle.vega_spec.specs.declared.marks.MarkFrom.TheVariants as from
use Rattle.vega_spec.specs.declared.spec.Group.{Group, Group-F, roll-Group}
use Rattle.vega_spec.specs.declared.spec.VgMark.{VgMark, VgMark-F, roll-VgMark}
use Rattle.vega_spec.specs.declared.spec.Size.TheVariants as size
use Rattle.vega_spec.specs.declared.spec.VgSpec.{VgSpec}
use Rattle.vega_scales.specs.Scales.{linear, band}
use Rattle.first_form.specs.declared.form.FirstForm.{FirstForm}
use Rattle.first_form.specs.declared.form.Value.{Value}
use Rattle.first_form.specs.Bars.{with_ids, default_color, inner_padding, outer_padding, step_width, plot_height}

-- a value as it is written: an object with its category and its amount
abbrev pub value_object : List ℕ → List ℕ → Value → Json
value_object x y value =
    json.Object (record { name = x; value = json.Text value.category } ∷ record { name = y; value = json.Number value.amount } ∷ [])

-- the values as they are written
abbrev pub values_of : FirstForm → Json
values_of form = json.List (map (value_object form.x form.y) form.values)

-- the data set: the values under their name
abbrev pub data_set_of : FirstForm → DataSet
data_set_of form =
    record { name = form.name; values = Some (values_of form); url = None; format = None; source = None; transform = None }

-- the code of `bandspace` among the builtins
abbrev pub bandspace : ℕ
bandspace = 18

-- `bandspace(domain('x').length, 0.1, 0.05)`: the space of the bands, in steps
abbrev pub space_expr : Expr
space_expr = expr.Call bandspace (expr.DomainLength (codes "x") ∷ expr.Number inner_padding ∷ expr.Number outer_padding ∷ [])

-- 20 times that: a step of 20 pixels for each unit of the space
abbrev pub width_expr : Expr
width_expr = expr.Binary Mul (expr.Number step_width) space_expr

-- a band for each category, in ascending order, over the width
abbrev pub x_scale_of : FirstForm → Scale
x_scale_of form = record {
  name = codes "x";
  type_ = band;
  domain = domain.Field record { data_ = form.name; field = form.x; sort = Some order.True };
  domain_raw = None;
  range = range.Width;
  zero = None;
  nice = None;
  reverse = None;
  padding = None;
  padding_inner = Some inner_padding;
  padding_outer = Some outer_padding;
}

-- the nice domain of the amounts with zero, over the height
abbrev pub y_scale_of : FirstForm → Scale
y_scale_of form = record {
  name = codes "y";
  type_ = linear;
  domain = domain.Field record { data_ = form.name; field = form.y; sort = None };
  domain_raw = None;
  range = range.Height;
  zero = Some true;
  nice = Some true;
  reverse = None;
  padding = None;
  padding_inner = None;
  padding_outer = None;
}

-- a value of a channel without members
abbrev pub no_value : ChannelValue
no_value = record { value = None; field = None; scale = None; band = None; offset = None; signal = None; test = None; format = None }

-- the place of a field on a scale
abbrev pub on_scale : List ℕ → List ℕ → ChannelValue
on_scale scale field = record no_value { field = Some field; scale = Some scale }

-- the width of a band
abbrev pub one_band : ChannelValue
one_band = record no_value { scale = Some (codes "x"); band = Some (pos million) }

-- the base of the bars
abbrev pub base_value : ChannelValue
base_value = record no_value { value = Some Null; scale = Some (codes "y") }

-- the colour of the bars
abbrev pub color_value : ChannelValue
color_value = record no_value { value = Some (Text default_color) }

-- a mark that encodes these channels alone
abbrev pub channels_with : Option Channel → Option Channel → Option Channel → Option Channel → Option Channel → Channels
channels_with x width y y2 fill = record {
  x = x;
  x2 = None;
  xc = None;
  width = width;
  y = y;
  y2 = y2;
  yc = None;
  height = None;
  fill = fill;
  stroke = None;
  stroke_width = None;
  opacity = None;
  size = None;
  shape = None;
  text = None;
  align = None;
  baseline = None;
  dx = None;
  dy = None;
  font_size = None;
}

-- each bar stands on the band of its category, from the place of its amount to the base
abbrev pub channels_of : FirstForm → Channels
channels_of form =
    channels_with (Some (One (on_scale (codes "x") form.x))) (Some (One one_band)) (Some (One (on_scale (codes "y") form.y)))
    (Some (One base_value)) (Some (One color_value))

-- what a mark that is no group has of one
abbrev pub no_parts : Group-F Group VgMark
no_parts = record {
  data_ = None;
  signals = None;
  scales = None;
  layout = None;
  marks = None;
  axes = None;
  legends = None;
  title = None;
}

abbrev pub no_group : Group
no_group = roll-Group no_parts

-- what the bars show
abbrev pub encode_of : FirstForm → Encode
encode_of form = record { enter = None; update = Some (channels_of form) }

-- the bars, of the values
abbrev pub mark_parts : FirstForm → VgMark-F Group VgMark
mark_parts form = record {
  type_ = mark.Rect;
  name = None;
  from = Some (from.Data form.name);
  encode = Some (encode_of form);
  sort = None;
  group = no_group;
}

abbrev pub bars_mark : FirstForm → VgMark
bars_mark form = roll-VgMark (mark_parts form)

-- the values, their scales and their bars
abbrev pub bars_parts : FirstForm → Group-F Group VgMark
bars_parts form = record {
  data_ = Some (data_set_of form ∷ []);
  signals = None;
  scales = Some (x_scale_of form ∷ y_scale_of form ∷ []);
  layout = None;
  marks = Some (bars_mark form ∷ []);
  axes = None;
  legends = None;
  title = None;
}

abbrev pub bars_group : FirstForm → Group
bars_group form = roll-Group (bars_parts form)

-- bars of the values of the form, placed by the first field and as high as the second says
abbrev pub bars_of : FirstForm → VgSpec
bars_of form = record {
  group = bars_group form;
  schema = Some (codes "https://vega.github.io/schema/vega/v5.json");
  description = None;
  width = Some (size.Signal width_expr);
  height = Some (size.Number plot_height);
  padding = Some (pos (5 * million));
  autosize = None;
}

-- the cells of a value: its category and its amount; a member of the name under which every row has its id is dropped
abbrev pub cells_of : List ℕ → List ℕ → Value → List (List ℕ × Cell)
cells_of x y value =
    filter (λ (cell : List ℕ × Cell). not (bytes_eq cell.0 id_name)) ((x, Text value.category) ∷ (y, Number value.amount) ∷ [])

-- the row of a value
abbrev pub value_row : List ℕ → List ℕ → ℕ × Value → Keyed
value_row x y value = record { key = record { id = value.0; branch = 0 }; row = row_of (cells_of x y value.1) }

-- the one source holds a row for each value, with ids counted from 1; there are no parameters and no selections
abbrev pub opening_of : FirstForm → ChartState
opening_of form = record {
  next_id = length form.values + 1;
  sources = record { name = form.name; rows = map (value_row form.x form.y) (with_ids 1 form.values) } ∷ [];
  params = [];
  stores = [];
}

-- The rule at work.

the_code_of_bandspace : index_of builtins (codes "bandspace") ≡ Some bandspace
the_code_of_bandspace = refl
