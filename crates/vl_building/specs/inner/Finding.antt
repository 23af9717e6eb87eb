-- What is looked up by the names of sources, as it is found.
use Rattle.std.specs.Prelude.{ℕ, Bool, Option, List, bytes_eq}
use Rattle.std.specs.Option.{option_map}
use Rattle.json_exact.specs.declared.json.Json.{Json}
use Rattle.json_exact.specs.declared.json.Member.{Member}
use Rattle.vl_building.specs.declared.naming.NamedData.{NamedData}
use Rattle.vl_building.specs.declared.sources.Finders.{Finders}
use Rattle.vl_building.specs.Sources.{Lookups, is_named, gives_named}
use Rattle.vl_building.specs.inner.Keyed.{number_at}
use Rattle.vl_building.specs.inner.Index.{at_number, IsIndex}

-- a dataset has this name
abbrev pub is_dataset : List ℕ → Member → Bool
is_dataset name m = bytes_eq name m.name

-- the rows of the dataset of a number
abbrev pub rows_numbered : List Member → Option ℕ → Option Json
rows_numbered datasets number = option_map (λ (m : Member). m.value) (at_number datasets number)

-- the number of the first data that has a name
abbrev pub first_numbered : Finders → List ℕ → Option ℕ
first_numbered finders name = number_at finders.names name

-- what is found
abbrev pub found_by : Finders → List Member → List NamedData → Lookups
found_by finders datasets all = record {
  rows_of = λ name. rows_numbered datasets (number_at finders.datasets name);
  giver_of = λ name. at_number all (number_at finders.givers name);
  first_of = first_numbered finders;
}

-- each name finds what it should
pub record Finds (datasets : List Member) (all : List NamedData) (finders : Finders) : Type 0 where
  pub of_datasets : IsIndex is_dataset finders.datasets datasets
  pub of_names : IsIndex is_named finders.names all
  pub of_givers : IsIndex gives_named finders.givers all
