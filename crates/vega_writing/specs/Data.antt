-- The trees of data sets.
use Rattle.std.specs.Prelude.{ℕ, List, [], ◌∷◌, map, option_map, codes}
use Rattle.json_exact.specs.declared.json.Json.{Json}
use Rattle.json_exact.specs.declared.json.Json.TheVariants as json
use Rattle.json_exact.specs.declared.json.Member.{Member}
use Rattle.vega_writing.specs.declared.slots.Slot.{Slot}
use Rattle.vega_spec.specs.declared.data.FormatKind.{FormatKind}
use Rattle.vega_spec.specs.declared.data.FormatKind.TheVariants as file
use Rattle.vega_spec.specs.declared.data.ParseKind.{ParseKind}
use Rattle.vega_spec.specs.declared.data.ParseKind.TheVariants as parsed
use Rattle.vega_spec.specs.declared.data.DataSet.{DataSet}
use Rattle.vega_spec.specs.declared.data.Format.{Format}
use Rattle.vega_writing.specs.Slots.{must, may, object}
use Rattle.vega_writing.specs.Trees.{text_tree, list_tree}
use Rattle.vega_writing.specs.Transforms.{transform_tree}

-- the type of a data file
unfoldable pub format_kind_tree : FormatKind → Json
format_kind_tree file.Json = text_tree (codes "json")
format_kind_tree file.Csv = text_tree (codes "csv")

-- how the texts of a field are read
unfoldable pub parse_kind_tree : ParseKind → Json
parse_kind_tree parsed.Number = text_tree (codes "number")
parse_kind_tree parsed.Boolean = text_tree (codes "boolean")
parse_kind_tree parsed.String = text_tree (codes "string")
parse_kind_tree parsed.Date = text_tree (codes "date")

-- how the texts of a field are read, under its name
abbrev pub parse_member : List ℕ × ParseKind → Member
parse_member field = record { name = field.0; value = parse_kind_tree field.1 }

-- how the texts of fields are read
unfoldable pub parse_tree : List (List ℕ × ParseKind) → Json
parse_tree fields = json.Object (map parse_member fields)

-- the format of a data file: its members
unfoldable pub format_slots : Format → List Slot
format_slots f =
    may (codes "type") (option_map format_kind_tree f.type_) ∷ may (codes "parse") (option_map parse_tree f.parse) ∷ []

abbrev pub format_tree : Format → Json
format_tree f = object (format_slots f)

-- a data set: its members
unfoldable pub data_set_slots : DataSet → List Slot
data_set_slots d =
    must (codes "name") (text_tree d.name) ∷ may (codes "values") d.values ∷ may (codes "url") (option_map text_tree d.url) ∷
    may (codes "format") (option_map format_tree d.format) ∷ may (codes "source") (option_map text_tree d.source) ∷
    may (codes "transform") (option_map (list_tree transform_tree) d.transform) ∷ []

abbrev pub data_set_tree : DataSet → Json
data_set_tree d = object (data_set_slots d)
