-- Names that are given.
use Rattle.std.specs.Prelude.{ℕ, ◌==◌, Bool, ◌&&◌, Option, Some, None, List, filter_map, find, is_some, bytes_eq}
use Rattle.vega_parts.specs.declared.part.Part.{Part}
use Rattle.vega_parts.specs.declared.part.Part.TheVariants as part
use Rattle.vega_parts.specs.declared.part.GivenName.{GivenName}
use Rattle.vega_parts.specs.declared.part.Given.{Given}
use Rattle.vega_parts.specs.declared.part.Given.TheVariants as given
use Rattle.vega_rules.specs.Places.{same_place}

-- the name that a part gives
abbrev pub given_by : Part → Option GivenName
given_by (part.Given name) = Some name
given_by other = None

-- all names that are given
abbrev pub given_names : List Part → List GivenName
given_names parts = filter_map given_by parts

-- a number for each kind of names
abbrev pub number_of : Given → ℕ
number_of given.Data = 0
number_of given.Source = 1
number_of given.Facet = 2
number_of given.Signal = 3
number_of given.Store = 4
number_of given.Scale = 5
number_of given.FacetName = 6
number_of given.Selector = 7
number_of given.Header = 8

-- it is a name of this kind, of this object, and this text
abbrev pub is_given : Given → List ℕ → List ℕ → GivenName → Bool
is_given kind scope name given = number_of kind == number_of given.kind && same_place scope given.scope && bytes_eq name given.name

-- the first such name
abbrev pub first_given : List Part → Given → List ℕ → List ℕ → Option GivenName
first_given parts kind scope name = find (is_given kind scope name) (given_names parts)

-- there is one
abbrev pub has_given : List Part → Given → List ℕ → List ℕ → Bool
has_given parts kind scope name = is_some (first_given parts kind scope name)
