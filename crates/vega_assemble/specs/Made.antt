-- A compiled specification before it is rolled up: a tree of objects with the marks and the groups in them, in the order of the text. An object that is a
-- plot has a size; of the top it becomes its own width and height, of a group what the group encodes.
use Rattle.std.specs.Prelude.{◌≡◌, refl, ℕ, Option, Some, None, List, [], ◌∷◌, codes, ℤ}
use Rattle.std.specs.Option.{option_map}
use Rattle.vega_spec.specs.declared.data.DataSet.{DataSet}
use Rattle.vega_spec.specs.declared.encode.Channel.{Channel}
use Rattle.vega_spec.specs.declared.encode.Channels.{Channels}
use Rattle.vega_spec.specs.declared.encode.Encode.{Encode}
use Rattle.vega_spec.specs.declared.guides.Axis.{Axis}
use Rattle.vega_spec.specs.declared.guides.Layout.{Layout}
use Rattle.vega_spec.specs.declared.guides.Legend.{Legend}
use Rattle.vega_spec.specs.declared.marks.Facet.{Facet}
use Rattle.vega_spec.specs.declared.marks.MarkFrom.TheVariants as from
use Rattle.vega_spec.specs.declared.marks.MarkType.{MarkType}
use Rattle.vega_spec.specs.declared.marks.MarkType.TheVariants as mark
use Rattle.vega_spec.specs.declared.orders.Sort.{Sort}
use Rattle.vega_spec.specs.declared.scales.Scale.{Scale}
use Rattle.vega_spec.specs.declared.signals.Signal.{Signal}
use Rattle.vega_spec.specs.declared.spec.Group.{Group, Group-F, roll-Group}
use Rattle.vega_spec.specs.declared.spec.Size.{Size}
use Rattle.vega_spec.specs.declared.spec.Size.TheVariants as size
use Rattle.vega_spec.specs.declared.spec.VgMark.{VgMark, VgMark-F, roll-VgMark}
use Rattle.vega_spec.specs.declared.spec.VgSpec.{VgSpec}
use Rattle.vega_assemble.specs.declared.made.Extent.{Extent}
use Rattle.vega_assemble.specs.Channels.{alone, number_value, signal_value}
use Rattle.vega_assemble.specs.Sources.{if_any}

-- an object, without the marks in it
pub record MadeObject : Type 0 where
  pub sets : List DataSet
  pub signals : List Signal
  pub scales : List Scale
  pub layout : Option Layout
  pub axes : List Axis
  pub legends : List Legend
  pub title : Option (List ℕ)
  -- of a group: how it parts rows, and how its copies stand
  pub facet : Option Facet
  pub sort : Option Sort
  -- of a plot: its size
  pub extent : Option Extent

-- a mark over the rows of a data set
pub record MadeMark : Type 0 where
  pub type : MarkType
  pub name : List ℕ
  pub from : List ℕ
  pub encode : Encode
  pub sort : Option Sort

-- marks and groups in the order of the text: none; a mark, and then others; or a group with the marks in it, and then others
pub data Made : Type 0 where
  NoMarks : Made
  AMark : MadeMark → Made → Made
  AGroup : MadeObject → Made → Made → Made

-- an object without members
abbrev pub bare_object : MadeObject
bare_object = record {
  sets = [];
  signals = [];
  scales = [];
  layout = None;
  axes = [];
  legends = [];
  title = None;
  facet = None;
  sort = None;
  extent = None;
}

-- an object with the marks in it
pub record MadeView : Type 0 where
  pub object : MadeObject
  pub marks : Made

-- ---- rolled up

-- no channel is shown
abbrev pub no_channels : Channels
no_channels = record {
  x = None;
  x2 = None;
  xc = None;
  width = None;
  y = None;
  y2 = None;
  yc = None;
  height = None;
  fill = None;
  stroke = None;
  stroke_width = None;
  opacity = None;
  size = None;
  shape = None;
  text = None;
  align = None;
  baseline = None;
  dx = None;
  dy = None;
  font_size = None;
}

-- a size as a channel
abbrev pub size_channel : Size → Option Channel
size_channel (size.Number n) = alone (number_value n)
size_channel (size.Signal e) = alone (signal_value e)

abbrev pub extent_encoded : Extent → Encode
extent_encoded e = record { enter = None; update = Some (record no_channels { width = size_channel e.width; height = size_channel e.height }) }

-- what a mark that is no group has of one
abbrev pub no_parts : Group-F Group VgMark
no_parts = record {
  data_ = None;
  signals = None;
  scales = None;
  layout = None;
  marks = None;
  axes = None;
  legends = None;
  title = None;
}

-- the members of an object with these marks
abbrev pub parts_of : MadeObject → List VgMark → Group-F Group VgMark
parts_of o marks = record {
  data_ = if_any o.sets;
  signals = if_any o.signals;
  scales = if_any o.scales;
  layout = o.layout;
  marks = if_any marks;
  axes = if_any o.axes;
  legends = if_any o.legends;
  title = o.title;
}

abbrev pub group_of : MadeObject → List VgMark → Group
group_of o marks = roll-Group (parts_of o marks)

-- a mark, and a group with these marks
abbrev pub mark_parts : MadeMark → VgMark-F Group VgMark
mark_parts m = record {
  type_ = m.type;
  name = Some m.name;
  from = Some (from.Data m.from);
  encode = Some m.encode;
  sort = m.sort;
  group = roll-Group no_parts;
}

abbrev pub mark_rolled : MadeMark → VgMark
mark_rolled m = roll-VgMark (mark_parts m)

abbrev pub group_parts : MadeObject → List VgMark → VgMark-F Group VgMark
group_parts o marks = record {
  type_ = mark.Group;
  name = None;
  from = option_map from.Facet o.facet;
  encode = option_map extent_encoded o.extent;
  sort = o.sort;
  group = group_of o marks;
}

abbrev pub group_rolled : MadeObject → List VgMark → VgMark
group_rolled o marks = roll-VgMark (group_parts o marks)

-- all marks
abbrev pub rolled : Made → List VgMark
rolled NoMarks = []
rolled (AMark m others) = mark_rolled m ∷ rolled others
rolled (AGroup o inside others) = group_rolled o (rolled inside) ∷ rolled others

-- the address of the format
abbrev pub schema : List ℕ
schema = codes "https://vega.github.io/schema/vega/v5.json"

-- the specification with this space round its picture
abbrev pub top_rolled : ℤ → MadeView → VgSpec
top_rolled padding top = record {
  group = group_of top.object (rolled top.marks);
  schema = Some schema;
  description = None;
  width = option_map (λ (e : Extent). e.width) top.object.extent;
  height = option_map (λ (e : Extent). e.height) top.object.extent;
  padding = Some padding;
  autosize = None;
}

-- The rules at work.

marks_in_their_order : (m : MadeMark) → rolled (AMark m (AGroup bare_object (AMark m NoMarks) NoMarks))
    ≡ mark_rolled m ∷ group_rolled bare_object (mark_rolled m ∷ []) ∷ []
marks_in_their_order m = refl
