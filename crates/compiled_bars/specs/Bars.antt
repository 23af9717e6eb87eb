-- The Vega specification of bars: one list of rows, placed along x by one field and as high as another says.
use Rattle.std.specs.Prelude.{◌≡◌, refl, ℕ, ◌*◌, pos, true, Some, None, List, [], ◌∷◌, codes}
use Rattle.fixed_num.specs.Number.{million}
use Rattle.case_table.specs.Names.{index_of, builtins, scale_kinds}
use Rattle.cell_value.specs.declared.cell.Cell.TheVariants.{Null, Text}
use Rattle.json_exact.specs.declared.json.Json.{Json}
use Rattle.expr_syntax.specs.declared.expr.Expr.{Expr}
use Rattle.expr_syntax.specs.declared.expr.Expr.TheVariants as expr
use Rattle.expr_syntax.specs.declared.expr.BinOp.TheVariants.{Mul}
use Rattle.vega_spec.specs.declared.data.DataSet.{DataSet}
use Rattle.vega_spec.specs.declared.domains.Domain.TheVariants as domain
use Rattle.vega_spec.specs.declared.domains.DomainOrder.TheVariants as order
use Rattle.vega_spec.specs.declared.scales.Range.TheVariants as range
use Rattle.vega_spec.specs.declared.scales.Scale.{Scale}
use Rattle.vega_spec.specs.declared.encode.ChannelValue.{ChannelValue}
use Rattle.vega_spec.specs.declared.encode.Channel.{Channel}
use Rattle.vega_spec.specs.declared.encode.Channel.TheVariants.{One}
use Rattle.vega_spec.specs.declared.encode.Channels.{Channels}
use Rattle.vega_spec.specs.declared.marks.MarkType.TheVariants as mark
use Rattle.vega_spec.specs.declared.marks.MarkFrom.TheVariants as from
use Rattle.vega_spec.specs.declared.spec.Group.{Group, Group-F, roll-Group}
use Rattle.vega_spec.specs.declared.spec.VgMark.{VgMark, VgMark-F, roll-VgMark}
use Rattle.vega_spec.specs.declared.spec.Size.TheVariants as size
use Rattle.vega_spec.specs.declared.spec.VgSpec.{VgSpec}

-- the data set: these values under this name
abbrev pub data_set : List ℕ → Json → DataSet
data_set name values = record { name = name; values = Some values; url = None; format = None; source = None; transform = None }

-- `bandspace(domain('x').length, 0.1, 0.05)`: the space of the bands, in steps
abbrev pub space : Expr
space = expr.Call 18 (expr.DomainLength (codes "x") ∷ expr.Number (pos 100000) ∷ expr.Number (pos 50000) ∷ [])

-- 20 times that: a step of 20 pixels for each unit of the space
abbrev pub width : Expr
width = expr.Binary Mul (expr.Number (pos (20 * million))) space

-- a band for each cell of the field along x, in ascending order, over the width
abbrev pub x_scale : List ℕ → List ℕ → Scale
x_scale name x = record {
  name = codes "x";
  type_ = 2;
  domain = domain.Field record { data_ = name; field = x; sort = Some order.True };
  domain_raw = None;
  range = range.Width;
  zero = None;
  nice = None;
  reverse = None;
  padding = None;
  padding_inner = Some (pos 100000);
  padding_outer = Some (pos 50000);
}

-- the nice domain of the field upward with zero, over the height
abbrev pub y_scale : List ℕ → List ℕ → Scale
y_scale name y = record {
  name = codes "y";
  type_ = 0;
  domain = domain.Field record { data_ = name; field = y; sort = None };
  domain_raw = None;
  range = range.Height;
  zero = Some true;
  nice = Some true;
  reverse = None;
  padding = None;
  padding_inner = None;
  padding_outer = None;
}

-- a value of a channel without members
abbrev pub no_value : ChannelValue
no_value = record { value = None; field = None; scale = None; band = None; offset = None; signal = None; test = None; format = None }

-- the place of a field on a scale
abbrev pub on_scale : List ℕ → List ℕ → ChannelValue
on_scale scale field = record no_value { field = Some field; scale = Some scale }

-- the width of a band
abbrev pub one_band : ChannelValue
one_band = record no_value { scale = Some (codes "x"); band = Some (pos million) }

-- the base of the bars
abbrev pub base : ChannelValue
base = record no_value { value = Some Null; scale = Some (codes "y") }

-- the colour of the bars
abbrev pub color : ChannelValue
color = record no_value { value = Some (Text (codes "#4c78a8")) }

-- these five channels, and no others
abbrev pub five_channels : Channel → Channel → Channel → Channel → Channel → Channels
five_channels x width y y2 fill = record {
  x = Some x;
  x2 = None;
  xc = None;
  width = Some width;
  y = Some y;
  y2 = Some y2;
  yc = None;
  height = None;
  fill = Some fill;
  stroke = None;
  stroke_width = None;
  opacity = None;
  size = None;
  shape = None;
  text = None;
  align = None;
  baseline = None;
  dx = None;
  dy = None;
  font_size = None;
}

-- each bar stands on the band of its category, from the place of its amount to the base
abbrev pub channels : List ℕ → List ℕ → Channels
channels x y = five_channels (One (on_scale (codes "x") x)) (One one_band) (One (on_scale (codes "y") y)) (One base) (One color)

-- what a mark that is no group has of one
abbrev pub no_group : Group-F Group VgMark
no_group = record {
  data_ = None;
  signals = None;
  scales = None;
  layout = None;
  marks = None;
  axes = None;
  legends = None;
  title = None;
}

-- the bars, of the rows of this name
abbrev pub bars_mark : List ℕ → List ℕ → List ℕ → VgMark-F Group VgMark
bars_mark name x y = record {
  type_ = mark.Rect;
  name = None;
  from = Some (from.Data name);
  encode = Some record { enter = None; update = Some (channels x y) };
  sort = None;
  group = roll-Group no_group;
}

-- the values, their scales and their bars
abbrev pub bars_group : List ℕ → List ℕ → List ℕ → Json → Group-F Group VgMark
bars_group name x y values = record {
  data_ = Some (data_set name values ∷ []);
  signals = None;
  scales = Some (x_scale name x ∷ y_scale name y ∷ []);
  layout = None;
  marks = Some (roll-VgMark (bars_mark name x y) ∷ []);
  axes = None;
  legends = None;
  title = None;
}

-- bars of these values under this name, placed by the first field and as high as the second says
abbrev pub bars_over : List ℕ → List ℕ → List ℕ → Json → VgSpec
bars_over name x y values = record {
  group = roll-Group (bars_group name x y values);
  schema = Some (codes "https://vega.github.io/schema/vega/v5.json");
  description = None;
  width = Some (size.Signal width);
  height = Some (size.Number (pos (200 * million)));
  padding = Some (pos (5 * million));
  autosize = None;
}

-- The codes at work.

the_code_of_bandspace : index_of builtins (codes "bandspace") ≡ Some 18
the_code_of_bandspace = refl

the_code_of_band : index_of scale_kinds (codes "band") ≡ Some (x_scale [] []).type_
the_code_of_band = refl

the_code_of_linear : index_of scale_kinds (codes "linear") ≡ Some (y_scale [] []).type_
the_code_of_linear = refl
