-- The specification that a tree is.
use Rattle.std.specs.Prelude.{ℕ, Option, Some, None, List, [], ◌∷◌, codes, if◌then◌else◌}
use Rattle.std.specs.Option.{option_map, option_and_then}
use Rattle.std.specs.Str.{bytes_eq}
use Rattle.json_exact.specs.declared.json.Json.{Json, Null, Flag, Number, Huge, Text, List', Object', Row_of-Json, end_of-Json}
use Rattle.json_exact.specs.declared.json.Json.{more_of-Json, Row_of-Member, end_of-Member, more_of-Member}
use Rattle.json_exact.specs.declared.json.Json.TheOpen as level
use Rattle.json_exact.specs.declared.json.Member.{Member}
use Rattle.json_exact.specs.Path.{member_value}
use Rattle.vega_spec.specs.declared.spec.VgSpec.{VgSpec}
use Rattle.vega_spec.specs.declared.spec.VgMark.{VgMark, roll-VgMark}
use Rattle.vega_spec.specs.declared.spec.Group.{Group, roll-Group}
use Rattle.vega_spec.specs.declared.spec.Size.{Size}
use Rattle.vega_spec.specs.declared.spec.Size.TheVariants as size
use Rattle.tree_readers.specs.Parts.{Opened, found_at, object_at, objects_at, members_of, number_at, text_at}
use Rattle.vega_building.specs.Parts.{expression_at}
use Rattle.vega_building.specs.Names.{named_at, needed_mark_type, autosize_named}
use Rattle.vega_building.specs.Orders.{sort_of}
use Rattle.vega_building.specs.Sources.{data_set_of}
use Rattle.vega_building.specs.Signals.{signal_of}
use Rattle.vega_building.specs.Scales.{scale_of}
use Rattle.vega_building.specs.Channels.{encode_of}
use Rattle.vega_building.specs.Marks.{mark_from_at}
use Rattle.vega_building.specs.Guides.{axis_of, legend_of, layout_of}

-- what a group has, its marks being these
abbrev pub group_with : List Member → Option (List VgMark) → Group
group_with members marks = roll-Group (record {
  data_ = objects_at data_set_of members (codes "data");
  signals = objects_at signal_of members (codes "signals");
  scales = objects_at scale_of members (codes "scales");
  layout = object_at layout_of members (codes "layout");
  marks = marks;
  axes = objects_at axis_of members (codes "axes");
  legends = objects_at legend_of members (codes "legends");
  title = text_at members (codes "title");
})

-- a mark, the marks inside it being these
abbrev pub mark_with : List Member → Option (List VgMark) → VgMark
mark_with members marks = roll-VgMark (record {
  type_ = needed_mark_type members (codes "type");
  name = text_at members (codes "name");
  from = mark_from_at members (codes "from");
  encode = object_at encode_of members (codes "encode");
  sort = object_at sort_of members (codes "sort");
  group = group_with members marks;
})

abbrev mutual
  -- the mark that a value is; one that is no object is a mark without members
  pub mark_of : Json → VgMark
  mark_of Null = mark_with [] None
  mark_of (Flag b) = mark_with [] None
  mark_of (Number n) = mark_with [] None
  mark_of Huge = mark_with [] None
  mark_of (Text t) = mark_with [] None
  mark_of (List' size items) = mark_with [] None
  mark_of (Object' size members) = mark_with (members_of (Object' size members)) (marks_among members)

  -- the marks that a list has
  pub marks_in : Json → Option (List VgMark)
  marks_in Null = None
  marks_in (Flag b) = None
  marks_in (Number n) = None
  marks_in Huge = None
  marks_in (Text t) = None
  marks_in (List' size items) = Some (mark_items items)
  marks_in (Object' size members) = None

  -- each of them
  pub mark_items : {n : _} → Row_of-Json n → List VgMark
  mark_items end_of-Json = []
  mark_items (more_of-Json item others) = mark_of item ∷ mark_items others

  -- the marks under the first member of that name
  pub marks_among : {n : _} → Row_of-Member n → Option (List VgMark)
  marks_among end_of-Member = None
  marks_among (more_of-Member name value others) =
      if bytes_eq name (codes "marks") then marks_in value else marks_among others

-- the marks under a name
abbrev pub marks_at : List Member → List ℕ → Option (List VgMark)
marks_at members name = option_and_then marks_in (member_value members name)

-- the expression of a width or a height
abbrev pub size_signal : List Member → Option Size
size_signal members = option_map size.Signal (expression_at members (codes "signal"))

-- a width or a height: a number, or the value of an expression
abbrev pub size_in : Opened → Option Size
size_in (level.Number n) = Some (size.Number n)
size_in (level.Object members) = size_signal members
size_in other = None

-- the same under a name
abbrev pub size_at : List Member → List ℕ → Option Size
size_at = found_at size_in

-- the specification of these members
abbrev pub spec_with : List Member → VgSpec
spec_with members = record {
  group = group_with members (marks_at members (codes "marks"));
  schema = text_at members (codes "$schema");
  description = text_at members (codes "description");
  width = size_at members (codes "width");
  height = size_at members (codes "height");
  padding = number_at members (codes "padding");
  autosize = named_at autosize_named members (codes "autosize");
}

-- the specification that a tree is
abbrev pub spec_of : Json → VgSpec
spec_of tree = spec_with (members_of tree)
