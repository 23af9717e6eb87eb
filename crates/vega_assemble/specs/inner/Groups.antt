-- Groups by their members, as the code puts them together.
use Rattle.std.specs.Prelude.{ℕ, ℤ, Option, Some, None, List, option_map}
use Rattle.vega_spec.specs.declared.data.DataSet.{DataSet}
use Rattle.vega_spec.specs.declared.encode.Encode.{Encode}
use Rattle.vega_spec.specs.declared.guides.Axis.{Axis}
use Rattle.vega_spec.specs.declared.guides.Layout.{Layout}
use Rattle.vega_spec.specs.declared.guides.Legend.{Legend}
use Rattle.vega_spec.specs.declared.marks.Facet.{Facet}
use Rattle.vega_spec.specs.declared.marks.MarkFrom.TheVariants as from
use Rattle.vega_spec.specs.declared.marks.MarkType.TheVariants as mark
use Rattle.vega_spec.specs.declared.orders.Sort.{Sort}
use Rattle.vega_spec.specs.declared.scales.Scale.{Scale}
use Rattle.vega_spec.specs.declared.signals.Signal.{Signal}
use Rattle.vega_spec.specs.declared.spec.Group.{Group, Group-F, out-Group, roll-Group}
use Rattle.vega_spec.specs.declared.spec.VgMark.{VgMark, VgMark-F, roll-VgMark}
use Rattle.vega_spec.specs.declared.spec.VgSpec.{VgSpec}
use Rattle.vega_assemble.specs.declared.made.Extent.{Extent}
use Rattle.vega_assemble.specs.Made.{extent_encoded, schema}
use Rattle.vega_assemble.specs.Sources.{if_any}

-- what a plot encodes of its size
abbrev pub encoded_by : Option Extent → Option Encode
encoded_by extent = option_map extent_encoded extent

-- a group with these members
abbrev pub parts_with : List Scale → Option Layout → List VgMark → List Axis → List Legend → Option (List ℕ) → Group-F Group VgMark
parts_with scales layout marks axes legends title = record {
  data_ = None;
  signals = None;
  scales = if_any scales;
  layout = layout;
  marks = if_any marks;
  axes = if_any axes;
  legends = if_any legends;
  title = title;
}

abbrev pub group_with : List Scale → Option Layout → List VgMark → List Axis → List Legend → Option (List ℕ) → Group
group_with scales layout marks axes legends title = roll-Group (parts_with scales layout marks axes legends title)

-- a group as a mark
abbrev pub mark_parts : Group → Option Extent → Option Facet → Option Sort → VgMark-F Group VgMark
mark_parts group extent facet sort = record {
  type_ = mark.Group;
  name = None;
  from = option_map from.Facet facet;
  encode = encoded_by extent;
  sort = sort;
  group = group;
}

abbrev pub mark_with : Group → Option Extent → Option Facet → Option Sort → VgMark
mark_with group extent facet sort = roll-VgMark (mark_parts group extent facet sort)

-- a group with data sets and signals
abbrev pub with_lists : Group-F Group VgMark → List DataSet → List Signal → Group-F Group VgMark
with_lists parts sets signals = record parts { data_ = if_any sets; signals = if_any signals }

abbrev pub lists_in : Group → List DataSet → List Signal → Group
lists_in group sets signals = roll-Group (with_lists (out-Group group) sets signals)

-- the specification with this group at its top
abbrev pub top_with : Group → Option Extent → ℤ → VgSpec
top_with group extent padding = record {
  group = group;
  schema = Some schema;
  description = None;
  width = option_map (λ (e : Extent). e.width) extent;
  height = option_map (λ (e : Extent). e.height) extent;
  padding = Some padding;
  autosize = None;
}
