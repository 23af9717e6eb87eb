-- Data, as a tree gives it in the order of the text, and the sources that it names.
use Rattle.std.specs.Prelude.{◌≡◌, refl, ℕ, ◌+◌, ◌==◌, Bool, false, ◌||◌, ◌&&◌, Option, Some, None, List, [], ◌∷◌, ◌++◌, map, find, codes, decimal, is_some}
use Rattle.std.specs.Prelude.{is_none, bytes_eq, if◌then◌else◌}
use Rattle.std.specs.Option.{option_map, option_map_or, option_and_then}
use Rattle.std.specs.List.{position_from, enumerate_from, filter_map}
use Rattle.json_exact.specs.declared.json.Json.{Json}
use Rattle.json_exact.specs.declared.json.Member.{Member}
use Rattle.json_exact.specs.Inside.{members_in}
use Rattle.json_exact.specs.Path.{member_value}
use Rattle.vl_spec.specs.declared.sources.SourceOf.{SourceOf}
use Rattle.vl_spec.specs.declared.sources.Format.{Format}
use Rattle.vl_spec.specs.declared.sources.ParseKind.{ParseKind}
use Rattle.vl_building.specs.declared.data.DataAt.{DataAt}
use Rattle.vl_building.specs.declared.naming.NamedData.{NamedData}
use Rattle.tree_readers.specs.Parts.{found_at, object_at, text_at}
use Rattle.vl_building.specs.Names.{named_at, format_kind_named, parse_kind_of}

-- how the texts of the field of a member's name are read
abbrev pub parse_of : Member → List ℕ × ParseKind
parse_of member = (member.name, parse_kind_of member.value)

-- the same of each member of the object under a name
abbrev pub parse_at : List Member → List ℕ → Option (List (List ℕ × ParseKind))
parse_at members name = option_map (map parse_of) (found_at members_in members name)

-- the format of data
unfoldable pub format_of : List Member → Format
format_of members = record {
  type_ = named_at format_kind_named members (codes "type");
  parse = parse_at members (codes "parse");
}

-- data at a place
unfoldable pub data_at : List ℕ → List Member → DataAt
data_at place members = record {
  place = place;
  name = text_at members (codes "name");
  url = text_at members (codes "url");
  format = object_at format_of members (codes "format");
  values = member_value members (codes "values");
}

-- data gives rows, and isn't a name alone
abbrev pub gives : DataAt → Bool
gives d = is_some d.values || is_some d.url

-- data has to be given a name
abbrev pub is_unnamed : DataAt → Bool
is_unnamed d = is_none d.name && gives d

-- the name of the source of unnamed data, of which so many stand before
abbrev pub source_name : ℕ → List ℕ
source_name n = codes "source_" ++ decimal n

-- the name of the source of data, where so many unnamed ones stand before; none for data that says nothing
abbrev pub name_behind : ℕ → DataAt → Option (List ℕ)
name_behind n d = if is_unnamed d then Some (source_name n) else d.name

-- how many unnamed ones stand before the next
abbrev pub count_behind : ℕ → DataAt → ℕ
count_behind n d = if is_unnamed d then n + 1 else n

-- data with the name of its source
abbrev pub named_behind : ℕ → DataAt → NamedData
named_behind n d = record { source = name_behind n d; data_ = d }

-- each with the name of its source, where so many unnamed ones stand before
abbrev pub named_from : ℕ → List DataAt → List NamedData
named_from n [] = []
named_from n (d ∷ others) = named_behind n d ∷ named_from (count_behind n d) others

-- the source of data has this name
abbrev pub is_named : List ℕ → NamedData → Bool
is_named name d = option_map_or (bytes_eq name) d.source false

-- data gives the rows of this name
abbrev pub gives_named : List ℕ → NamedData → Bool
gives_named name d = gives d.data_ && is_named name d

-- the source of a name that a dataset gives; the format is that of the data that names it first
abbrev pub of_dataset : List ℕ → DataAt → Json → SourceOf
of_dataset name first rows = record { name = name; values = Some rows; url = None; format = first.format }

-- the source of a name by data: what that gives, which may be nothing
abbrev pub of_data : List ℕ → DataAt → SourceOf
of_data name d = record { name = name; values = d.values; url = d.url; format = d.format }

-- what is looked up by the name of a source: the rows of the dataset, the first data that gives rows, and the number of the first data that
-- names it
pub record Lookups : Type 0 where
  pub rows_of : List ℕ → Option Json
  pub giver_of : List ℕ → Option NamedData
  pub first_of : List ℕ → Option ℕ

-- the same among some datasets and data
abbrev pub lookups_in : List Member → List NamedData → Lookups
lookups_in datasets all = record {
  rows_of = member_value datasets;
  giver_of = λ name. find (gives_named name) all;
  first_of = λ name. position_from (is_named name) 0 all;
}

-- the data that gives the rows, or else the data that names them
abbrev pub giver_or : Option NamedData → DataAt → DataAt
giver_or giver first = option_map_or (λ (d : NamedData). d.data_) giver first

-- the source of a name: that of the dataset, or else of the data that gives it, or else an empty one
abbrev pub source_for : Lookups → List ℕ → DataAt → SourceOf
source_for known name first =
    option_map_or (of_dataset name first) (known.rows_of name) (of_data name (giver_or (known.giver_of name) first))

-- data of this number is the first that names its source so
abbrev pub is_first : Lookups → ℕ → List ℕ → Bool
is_first known number name = option_map_or (λ first. first == number) (known.first_of name) false

-- the source of a name, if data of this number names it first
abbrev pub first_source : Lookups → ℕ → DataAt → List ℕ → Option SourceOf
first_source known number d name = if is_first known number name then Some (source_for known name d) else None

-- the source that data of a number names first
abbrev pub source_at : Lookups → ℕ × NamedData → Option SourceOf
source_at known item = option_and_then (first_source known item.0 item.1.data_) item.1.source

-- the sources, each where it is named first
abbrev pub sources_with : Lookups → List NamedData → List SourceOf
sources_with known all = filter_map (source_at known) (enumerate_from 0 all)

-- the sources of some datasets and data
abbrev pub sources_of : List Member → List NamedData → List SourceOf
sources_of datasets all = sources_with (lookups_in datasets all) all

-- The rules at work.

-- data of a name and a file
example : Option (List ℕ) → Option (List ℕ) → DataAt
example name url = record { place = []; name = name; url = url; format = None; values = None }

-- a source of a name, rows and a file
source : List ℕ → Option Json → Option (List ℕ) → SourceOf
source name rows url = record { name = name; values = rows; url = url; format = None }

-- the dataset `t`
dataset : Json → List Member
dataset rows = record { name = codes "t"; value = rows } ∷ []

unnamed_data_is_counted : map (λ (d : NamedData). d.source)
    (named_from 0 (example None (Some (codes "a.csv")) ∷ example (Some (codes "t")) None ∷ example None (Some (codes "b.csv")) ∷ []))
    ≡ Some (source_name 0) ∷ Some (codes "t") ∷ Some (source_name 1) ∷ []
unfolding example
unnamed_data_is_counted = refl

a_name_alone_stands_for_data_elsewhere :
    sources_of [] (named_from 0 (example (Some (codes "t")) None ∷ example (Some (codes "t")) (Some (codes "a.csv")) ∷ []))
    ≡ source (codes "t") None (Some (codes "a.csv")) ∷ []
unfolding example source
a_name_alone_stands_for_data_elsewhere = refl

or_for_a_dataset : (rows : Json) → sources_of (dataset rows) (named_from 0 (example (Some (codes "t")) None ∷ []))
    ≡ source (codes "t") (Some rows) None ∷ []
unfolding example source dataset
or_for_a_dataset rows = refl

or_for_no_rows : sources_of [] (named_from 0 (example (Some (codes "t")) None ∷ [])) ≡ source (codes "t") None None ∷ []
unfolding example source
or_for_no_rows = refl

a_dataset_that_no_data_names_is_not_read : (rows : Json) → sources_of (dataset rows) [] ≡ []
a_dataset_that_no_data_names_is_not_read rows = refl
