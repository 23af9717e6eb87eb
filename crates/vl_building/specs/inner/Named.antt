-- What goes by places, as it is kept.
use Rattle.std.specs.Prelude.{ℕ, Option, List, slice_get}
use Rattle.std.specs.Option.{option_and_then}
use Rattle.vl_building.specs.declared.naming.Named.{Named}
use Rattle.vl_building.specs.declared.naming.NamedData.{NamedData}
use Rattle.vl_building.specs.Views.{Naming}
use Rattle.vl_building.specs.inner.Keyed.{number_at}
use Rattle.vl_building.specs.inner.Index.{at_number}

-- the name of the source of data, if it says one
abbrev pub source_in : Option NamedData → Option (List ℕ)
source_in found = option_and_then (λ (d : NamedData). d.source) found

-- that of data of this number
abbrev pub source_numbered : List NamedData → ℕ → Option (List ℕ)
source_numbered all number = source_in (slice_get all number)

-- what goes by places
abbrev pub shown : Named → Naming
shown named = record {
  source_at = λ place. source_in (at_number named.all (number_at named.data_ place));
  param_at = λ place. number_at named.params place;
}
