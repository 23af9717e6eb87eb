-- The faults of the texts of a specification, found by the rules of the format in the order of the text.
use Rattle.std.specs.Prelude.{ℕ, Option, List, [], ◌∷◌, drop, map, reverse}
use Rattle.std.specs.Option.{option_and_then, option_map_or}
use Rattle.json_exact.specs.declared.json.Json.{Json, out-Json}
use Rattle.spec_schema.specs.declared.spec_error.SpecKind.{SpecKind}
use Rattle.json_exact.specs.Inside.{text_in}
use Rattle.spec_walk.specs.Walk.{seen_in}
use Rattle.vl_schema.specs.Schema.{vl_schema}
use Rattle.vl_schema.specs.declared.codes.TheConstants.{TOP}
use Rattle.vl_model.specs.declared.visits.Around.{Around}
use Rattle.vl_model.specs.declared.visits.PlacedFault.{PlacedFault}
use Rattle.vl_model.specs.Texts.{text_fault}

-- where a value stands: from the top on, the number of each child among its parent's children
abbrev pub Place : Type 0
Place = List ℕ

-- the values round a value, from itself outwards
abbrev pub Trail : Type 0
Trail = List Around

-- what is noted of a value: its number among its parent's children, and its shape
abbrev pub noted : ℕ → ℕ → Json → Around
noted number shape tree = record { number = number; shape = shape }

-- where a value stands: the numbers from the top on, without that of the top itself
abbrev pub place_of : Trail → Place
place_of trail = drop 1 (map (λ (a : Around). a.number) (reverse trail))

-- what is wrong with a value of a shape, where it is a text
abbrev pub fault_in : ℕ → Json → Option SpecKind
fault_in shape tree = option_and_then (text_fault shape) (text_in (out-Json tree))

-- the fault of a value of a shape at a place
abbrev pub faults_by : ℕ → Place → Json → List PlacedFault
faults_by shape place tree = option_map_or (λ (kind : SpecKind). record { place = place; kind = kind } ∷ []) (fault_in shape tree) []

-- the fault that the visit of a value finds
abbrev pub faults_seen : Trail → Json → List PlacedFault
faults_seen [] tree = []
faults_seen (here ∷ round) tree = faults_by here.shape (place_of (here ∷ round)) tree

-- the faults of all texts, in their order
unfoldable pub text_faults : Json → List PlacedFault
text_faults tree = seen_in vl_schema noted faults_seen tree 0 TOP []
