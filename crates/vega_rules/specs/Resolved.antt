-- What a used name means.
use Rattle.std.specs.Prelude.{◌≡◌, ℕ, Bool, true, false, ◌||◌, not, Option, Some, None, List, [], ◌∷◌, if◌then◌else◌, drop, codes, refl}
use Rattle.std.specs.Option.{option_or, option_and_then}
use Rattle.vega_parts.specs.declared.part.Part.{Part}
use Rattle.vega_parts.specs.declared.part.Part.TheVariants as part
use Rattle.vega_parts.specs.declared.part.GivenName.{GivenName}
use Rattle.vega_parts.specs.declared.part.UsedName.{UsedName}
use Rattle.vega_parts.specs.declared.part.Given.{Given}
use Rattle.vega_parts.specs.declared.part.Given.TheVariants as given
use Rattle.vega_parts.specs.declared.part.Used.{Used}
use Rattle.vega_parts.specs.declared.part.Used.TheVariants as used
use Rattle.vega_rules.specs.Places.{ends_before, fronts}
use Rattle.vega_rules.specs.Names.{first_given}

-- what gives the name that is used. The name of a mark isn't looked up so
abbrev pub giver : Used → Option Given
giver used.Source = Some given.Data
giver used.From = Some given.Data
giver used.MarkRows = Some given.Data
giver used.FacetRows = Some given.Data
giver used.Domain = Some given.Data
giver used.Signal = Some given.Signal
giver used.Store = Some given.Store
giver used.Scale = Some given.Scale
giver used.SizedScale = Some given.Scale
giver used.MarkBelow = None

-- what else gives it, behind that: a name of rows may be that of a facet
abbrev pub other_giver : Used → Option Given
other_giver used.Source = Some given.Facet
other_giver used.From = Some given.Facet
other_giver used.MarkRows = Some given.Facet
other_giver used.FacetRows = Some given.Facet
other_giver used.Domain = Some given.Facet
other_giver used.Signal = None
other_giver used.Store = None
other_giver used.Scale = None
other_giver used.SizedScale = None
other_giver used.MarkBelow = None

-- it has to stand before the use. The rows of a domain may stand anywhere
abbrev pub asks_before : Used → Bool
asks_before used.Source = true
asks_before used.From = true
asks_before used.MarkRows = true
asks_before used.FacetRows = true
asks_before used.Domain = false
asks_before used.Signal = false
asks_before used.Store = false
asks_before used.Scale = false
asks_before used.SizedScale = false
asks_before used.MarkBelow = false

-- what is given serves a use at a place
abbrev pub served : Used → List ℕ → GivenName → Option GivenName
served how at name = if not (asks_before how) || ends_before name.of at then Some name else None

-- what an object gives by the name as one kind, where it serves
abbrev pub served_by : List Part → Used → List ℕ → List ℕ → List ℕ → Option Given → Option GivenName
served_by parts how at name scope None = None
served_by parts how at name scope (Some kind) = option_and_then (served how at) (first_given parts kind scope name)

-- data sets use names in their own object: what it gives only later is passed over there
abbrev pub uses_in_data : Used → Bool
uses_in_data used.Source = true
uses_in_data used.From = true
uses_in_data used.MarkRows = false
uses_in_data used.FacetRows = false
uses_in_data used.Domain = false
uses_in_data used.Signal = false
uses_in_data used.Store = false
uses_in_data used.Scale = false
uses_in_data used.SizedScale = false
uses_in_data used.MarkBelow = false

-- what an object gives by the name as one kind
abbrev pub given_as : List Part → List ℕ → List ℕ → Option Given → Option GivenName
given_as parts name scope None = None
given_as parts name scope (Some kind) = first_given parts kind scope name

-- what it gives by the name at all, wherever that stands
abbrev pub given_in : List Part → Used → List ℕ → List ℕ → Option GivenName
given_in parts how name scope = option_or (given_as parts name scope (giver how)) (given_as parts name scope (other_giver how))

-- the first that is found
abbrev pub first_found : (List ℕ → Option GivenName) → List (List ℕ) → Option GivenName
first_found look [] = None
first_found look (scope ∷ scopes) = option_or (look scope) (first_found look scopes)

-- what the first of some objects gives that has the name, where it serves. Where it doesn't, no other one does in its place
abbrev pub nearest_given : List Part → Used → List ℕ → List ℕ → List (List ℕ) → Option GivenName
nearest_given parts how at name scopes = option_and_then (served how at) (first_found (given_in parts how name) scopes)

-- the objects round an object, from the innermost
abbrev pub fronts_round : List ℕ → List (List ℕ)
fronts_round scope = drop 1 (fronts scope)

-- what stands by the name behind the data sets of a data set's own object: the object's facet, else what the objects round it give
abbrev pub behind_own : List Part → Used → List ℕ → List ℕ → Option GivenName
behind_own parts how name scope =
    option_or (given_as parts name scope (other_giver how)) (first_found (given_in parts how name) (fronts_round scope))

-- what a name means that is used in an object: what the nearest object, from this one outwards, gives that has it, where this
-- serves. A data set means by it a data set of its own object that serves, else what stands behind those
abbrev pub resolved : List Part → Used → List ℕ → List ℕ → List ℕ → Option GivenName
resolved parts how scope at name =
    if uses_in_data how
    then option_or (served_by parts how at name scope (giver how)) (option_and_then (served how at) (behind_own parts how name scope))
    else nearest_given parts how at name (fronts scope)

-- the same of a part
abbrev pub resolved_use : List Part → UsedName → Option GivenName
resolved_use parts u = resolved parts u.kind u.scope u.at u.name

-- ---- worked examples

-- the data set `a` of the top
of_top : GivenName
of_top = record { kind = given.Data; scope = []; of = 0 ∷ 0 ∷ []; at = 0 ∷ 0 ∷ 0 ∷ []; name = codes "a"; scale = None }

-- and one of that name in the first group of the marks
of_group : GivenName
of_group = record {
  kind = given.Data;
  scope = 1 ∷ 0 ∷ [];
  of = 1 ∷ 0 ∷ 0 ∷ 0 ∷ [];
  at = 1 ∷ 0 ∷ 0 ∷ 0 ∷ 0 ∷ [];
  name = codes "a";
  scale = None;
}

-- both
two_data_sets : List Part
two_data_sets = part.Given of_top ∷ part.Given of_group ∷ []

a_later_mark_reads_the_inner_one : resolved two_data_sets used.MarkRows (1 ∷ 0 ∷ []) (1 ∷ 0 ∷ 1 ∷ 0 ∷ []) (codes "a") ≡ Some of_group
unfolding two_data_sets of_group of_top
a_later_mark_reads_the_inner_one = refl

its_own_source_is_the_outer_one : resolved two_data_sets used.Source (1 ∷ 0 ∷ []) (1 ∷ 0 ∷ 0 ∷ 0 ∷ 1 ∷ []) (codes "a") ≡ Some of_top
unfolding two_data_sets of_group of_top
its_own_source_is_the_outer_one = refl

a_sibling_has_no_part_in_it : resolved two_data_sets used.MarkRows (1 ∷ 1 ∷ []) (1 ∷ 1 ∷ 0 ∷ []) (codes "a") ≡ Some of_top
unfolding two_data_sets of_group of_top
a_sibling_has_no_part_in_it = refl

-- and one in a group whose marks stand before its data: the second of them
behind_marks : GivenName
behind_marks = record {
  kind = given.Data;
  scope = 1 ∷ 0 ∷ [];
  of = 1 ∷ 0 ∷ 1 ∷ 1 ∷ [];
  at = 1 ∷ 0 ∷ 1 ∷ 1 ∷ 0 ∷ [];
  name = codes "a";
  scale = None;
}

-- that and the one of the top
marks_before_data : List Part
marks_before_data = part.Given of_top ∷ part.Given behind_marks ∷ []

a_mark_before_it_is_not_given_the_outer_one :
    resolved marks_before_data used.MarkRows (1 ∷ 0 ∷ []) (1 ∷ 0 ∷ 0 ∷ 0 ∷ 0 ∷ []) (codes "a") ≡ None
unfolding marks_before_data behind_marks of_top
a_mark_before_it_is_not_given_the_outer_one = refl

nor_is_a_source_further_in :
    resolved marks_before_data used.Source (1 ∷ 0 ∷ 0 ∷ 0 ∷ []) (1 ∷ 0 ∷ 0 ∷ 0 ∷ 0 ∷ 0 ∷ 0 ∷ []) (codes "a") ≡ None
unfolding marks_before_data behind_marks of_top
nor_is_a_source_further_in = refl

the_first_data_set_of_its_object_is :
    resolved marks_before_data used.Source (1 ∷ 0 ∷ []) (1 ∷ 0 ∷ 1 ∷ 0 ∷ 1 ∷ []) (codes "a") ≡ Some of_top
unfolding marks_before_data behind_marks of_top
the_first_data_set_of_its_object_is = refl
