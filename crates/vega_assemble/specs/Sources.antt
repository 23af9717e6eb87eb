-- Data sets. A source is one without `source`, with the rows or the file of the specification; the format of a file always has its type, which is CSV where
-- it isn't said and the name ends in `.csv`, else JSON. Another one begins with the rows of a data set.
use Rattle.std.specs.Prelude.{◌≡◌, refl, ℕ, Option, Some, None, List, [], ◌∷◌, map, codes, is_some, if◌then◌else◌, nat_eq}
use Rattle.std.specs.List.{ends_with}
use Rattle.std.specs.Option.{option_map, option_map_or, option_and_then}
use Rattle.vega_spec.specs.declared.data.DataSet.{DataSet}
use Rattle.vega_spec.specs.declared.data.Format.{Format}
use Rattle.vega_spec.specs.declared.data.FormatKind.{FormatKind}
use Rattle.vega_spec.specs.declared.data.FormatKind.TheVariants.{Json, Csv}
use Rattle.vega_spec.specs.declared.data.ParseKind.{ParseKind}
use Rattle.vega_spec.specs.declared.data.ParseKind.TheVariants.{Number, Boolean, String, Date}
use Rattle.vega_spec.specs.declared.transforms.Transform.{Transform}
use Rattle.vl_spec.specs.declared.sources.Format.{Format as FormatSaid}
use Rattle.vl_spec.specs.declared.sources.FormatKind.{FormatKind as KindSaid}
use Rattle.vl_spec.specs.declared.sources.FormatKind.TheVariants as said
use Rattle.vl_spec.specs.declared.sources.ParseKind.{ParseKind as ParseSaid}
use Rattle.vl_spec.specs.declared.sources.ParseKind.TheVariants as parse_said
use Rattle.vl_spec.specs.declared.sources.SourceOf.{SourceOf}

-- ---- files

abbrev pub kind_written : KindSaid → FormatKind
kind_written said.Json = Json
kind_written said.Csv = Csv

-- the type of a file of which none is said
abbrev pub kind_by_name : List ℕ → FormatKind
kind_by_name url = if ends_with nat_eq url (codes ".csv") then Csv else Json

abbrev pub type_said : Option FormatSaid → Option KindSaid
type_said format = option_and_then (λ (f : FormatSaid). f.type_) format

abbrev pub kind_of : Option FormatSaid → List ℕ → FormatKind
kind_of format url = option_map_or kind_written (type_said format) (kind_by_name url)

-- how fields are read
abbrev pub parse_written : ParseSaid → ParseKind
parse_written parse_said.Number = Number
parse_written parse_said.Boolean = Boolean
parse_written parse_said.String = String
parse_written parse_said.Date = Date

abbrev pub field_parsed : List ℕ × ParseSaid → List ℕ × ParseKind
field_parsed field = (field.0, parse_written field.1)

abbrev pub parse_of : Option FormatSaid → Option (List (List ℕ × ParseKind))
parse_of format = option_map (map field_parsed) (option_and_then (λ (f : FormatSaid). f.parse) format)

-- the format of a source: of one with a file always with its type, of another only how fields are read
abbrev pub format_of : SourceOf → Option Format
format_of s =
    if is_some s.url then Some (record { type_ = option_map (kind_of s.format) s.url; parse = parse_of s.format })
    else option_map (λ (f : FormatSaid). record { type_ = None; parse = parse_of (Some f) }) s.format

-- ---- data sets

-- a list that is left out where it is empty
abbrev pub if_any : {A : Type 0} → List A → Option (List A)
if_any [] = None
if_any (first ∷ others) = Some (first ∷ others)

abbrev pub source_written : SourceOf → DataSet
source_written s = record {
  name = s.name;
  values = s.values;
  url = s.url;
  format = format_of s;
  source = None;
  transform = None;
}

-- a data set that begins with the rows of another
abbrev pub list_made : List ℕ → List ℕ → List Transform → DataSet
list_made name source transforms = record {
  name = name;
  values = None;
  url = None;
  format = None;
  source = Some source;
  transform = if_any transforms;
}

-- The rules at work.

types_of_files : (kind_of None (codes "d.csv") ≡ Csv) × (kind_of None (codes "d.json") ≡ Json)
    × (kind_of (Some (record { type_ = Some said.Json; parse = None })) (codes "d.csv") ≡ Json)
types_of_files = (refl, refl, refl)
