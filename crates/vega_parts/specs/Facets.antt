-- What the facets of groups give.
use Rattle.std.specs.Prelude.{ℕ, List, [], ◌∷◌, ◌++◌, drop, flat_map, codes}
use Rattle.std.specs.Option.{option_map_or}
use Rattle.std.specs.List.{enumerate_from}
use Rattle.json_exact.specs.declared.json.Json.{Json, out-Json}
use Rattle.json_exact.specs.declared.json.Json.TheOpen as level
use Rattle.json_exact.specs.Inside.{text_in}
use Rattle.spec_schema.specs.Values.{Opened}
use Rattle.vega_parts.specs.declared.part.Part.{Part}
use Rattle.vega_parts.specs.declared.part.Given.TheVariants as give
use Rattle.vega_parts.specs.declared.part.Used.TheVariants as for_
use Rattle.vega_parts.specs.Members.{member_at, items_at}
use Rattle.vega_parts.specs.Trails.{Trail, Place, place_of, child, grandchild, scope_of, object_round}
use Rattle.vega_parts.specs.Names.{given, used, used_items}
use Rattle.vega_parts.specs.Lengths.{apart, other_length}

-- the group of a facet: the facet stands in its `from`
abbrev pub group_of : Trail → Trail
group_of trail = drop 2 trail

-- a name of the rows of a copy
abbrev pub facet_name : Trail → Place → List ℕ → List Part
facet_name trail place name = given give.Facet (place_of (group_of trail)) (place_of trail) place name ∷ []
    ++ given give.FacetName (place_of trail) (place_of trail) place name ∷ []

-- one in a list of names
abbrev pub facet_item : Trail → ℕ → ℕ × Json → List Part
facet_item trail number item =
    option_map_or (λ (name : List ℕ). facet_name trail (grandchild trail number item.0) name) (text_in (out-Json item.1)) []

-- a list of names
abbrev pub facet_items : Trail → ℕ → List Json → List Part
facet_items trail number items = flat_map (facet_item trail number) (enumerate_from 0 items)

-- a text or a list of texts
abbrev pub facet_names_in : Trail → ℕ → Opened → List Part
facet_names_in trail number (level.Text name) = facet_name trail (child trail number) name
facet_names_in trail number (level.List items) = facet_items trail number items
facet_names_in trail number other = []

-- the names of a facet
abbrev pub facet_names : Trail → Json → List Part
facet_names trail tree = option_map_or (λ (m : ℕ × Json). facet_names_in trail m.0 (out-Json m.1)) (member_at (codes "name") tree) []

-- a data set of a facet is looked up round its group
abbrev pub only_row : Trail → ℕ → List ℕ → List Part
only_row trail number name = used for_.FacetRows (scope_of (group_of trail)) (child trail number) name ∷ []

-- a text or a list of texts
abbrev pub facet_rows_in : Trail → ℕ → Opened → List Part
facet_rows_in trail number (level.Text name) = only_row trail number name
facet_rows_in trail number (level.List items) = used_items for_.FacetRows (object_round (group_of trail)) trail number items
facet_rows_in trail number other = []

-- the data sets of a facet
abbrev pub facet_rows : Trail → Json → List Part
facet_rows trail tree = option_map_or (λ (m : ℕ × Json). facet_rows_in trail m.0 (out-Json m.1)) (member_at (codes "data") tree) []

-- a place of headers
abbrev pub header : Trail → ℕ → ℕ × Json → List Part
header trail number item =
    option_map_or (λ (name : List ℕ). given give.Header (place_of trail) (place_of trail) (grandchild trail number item.0) name ∷ [])
    (text_in (out-Json item.1)) []

-- several
abbrev pub headers_in : Trail → ℕ → List Json → List Part
headers_in trail number items = flat_map (header trail number) (enumerate_from 0 items)

-- the places of the headers of a facet
abbrev pub headers : Trail → Json → List Part
headers trail tree = option_map_or (λ (m : ℕ × List Json). headers_in trail m.0 m.1) (items_at (codes "headers") tree) []

-- a facet has a name for each data set, and a place of headers for each field
abbrev pub facet_faults : Trail → Json → List Part
facet_faults trail tree = apart (codes "name") (codes "data") trail tree ++ other_length (codes "headers") (codes "groupby") trail tree

-- the names that a facet gives and uses
abbrev pub facet_names_and_rows : Trail → Json → List Part
facet_names_and_rows trail tree = facet_names trail tree ++ facet_rows trail tree

-- what a facet gives
abbrev pub facet_parts : Trail → Json → List Part
facet_parts trail tree = facet_names_and_rows trail tree ++ headers trail tree ++ facet_faults trail tree
