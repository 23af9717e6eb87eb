-- Parts that several rules give.
use Rattle.std.specs.Prelude.{ℕ, None, List, [], ◌∷◌, flat_map, map}
use Rattle.std.specs.Option.{option_map_or}
use Rattle.std.specs.List.{enumerate_from}
use Rattle.json_exact.specs.declared.json.Json.{Json, out-Json}
use Rattle.json_exact.specs.Inside.{text_in}
use Rattle.spec_schema.specs.declared.spec_error.SpecKind.{SpecKind}
use Rattle.vega_parts.specs.declared.part.Part.{Part}
use Rattle.vega_parts.specs.declared.part.Part.TheVariants as part
use Rattle.vega_parts.specs.declared.part.Given.{Given}
use Rattle.vega_parts.specs.declared.part.Used.{Used}
use Rattle.vega_parts.specs.Members.{member_at, text_at}
use Rattle.vega_parts.specs.Trails.{Trail, Place, place_of, child, grandchild, scope_of}

-- a name that is given in a scope to the thing at `of`, and stands at `place`
abbrev pub given : Given → Place → Place → Place → List ℕ → Part
given kind scope of place name = part.Given (record { kind = kind; scope = scope; of = of; at = place; name = name; scale = None })

-- a name that is used in a scope, and stands at `place`
abbrev pub used : Used → Place → Place → List ℕ → Part
used kind scope place name = part.Used (record { kind = kind; scope = scope; at = place; name = name })

-- the member of this name, where it is a text, uses a name in the object round the value
abbrev pub used_member : Used → List ℕ → Trail → Json → List Part
used_member kind name trail tree =
    option_map_or (λ (m : ℕ × List ℕ). used kind (scope_of trail) (child trail m.0) m.1 ∷ []) (text_at name tree) []

-- the member of this name, where there is one, is a fault
abbrev pub fault_member : SpecKind → List ℕ → Trail → Json → List Part
fault_member kind name trail tree = option_map_or (λ (m : ℕ × Json). part.Fault (child trail m.0) kind ∷ []) (member_at name tree) []

-- an item of the list at a child, where it is a text, uses a name in an object
abbrev pub used_item : Used → Trail → Trail → ℕ → ℕ × Json → List Part
used_item kind object trail number item =
    option_map_or (λ (name : List ℕ). used kind (place_of object) (grandchild trail number item.0) name ∷ [])
    (text_in (out-Json item.1)) []

-- the items of the list at a child
abbrev pub used_items : Used → Trail → Trail → ℕ → List Json → List Part
used_items kind object trail number items = flat_map (used_item kind object trail number) (enumerate_from 0 items)

-- the value itself uses names in the object round it
abbrev pub used_names : Used → Trail → List (List ℕ) → List Part
used_names kind trail names = map (λ (name : List ℕ). used kind (scope_of trail) (place_of trail) name) names
