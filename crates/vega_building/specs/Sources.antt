-- Data sets.
use Rattle.std.specs.Prelude.{ℕ, Option, List, map, codes}
use Rattle.std.specs.Option.{option_map}
use Rattle.json_exact.specs.declared.json.Member.{Member}
use Rattle.json_exact.specs.Inside.{members_in}
use Rattle.json_exact.specs.Path.{member_value}
use Rattle.vega_spec.specs.declared.data.DataSet.{DataSet}
use Rattle.vega_spec.specs.declared.data.Format.{Format}
use Rattle.vega_spec.specs.declared.data.ParseKind.{ParseKind}
use Rattle.tree_readers.specs.Parts.{found_at, object_at, objects_at, text_at, needed_text}
use Rattle.vega_building.specs.Names.{named_at, format_kind_named, parse_kind_of}
use Rattle.vega_building.specs.Transforms.{transform_of}

-- how the texts of the field of a member's name are read
abbrev pub parse_of : Member → List ℕ × ParseKind
parse_of member = (member.name, parse_kind_of member.value)

-- the same of each member of the object under a name
abbrev pub parse_at : List Member → List ℕ → Option (List (List ℕ × ParseKind))
parse_at members name = option_map (map parse_of) (found_at members_in members name)

-- the format of a data file
abbrev pub format_of : List Member → Format
format_of members = record {
  type_ = named_at format_kind_named members (codes "type");
  parse = parse_at members (codes "parse");
}

-- a data set
abbrev pub data_set_of : List Member → DataSet
data_set_of members = record {
  name = needed_text members (codes "name");
  values = member_value members (codes "values");
  url = text_at members (codes "url");
  format = object_at format_of members (codes "format");
  source = text_at members (codes "source");
  transform = objects_at transform_of members (codes "transform");
}
