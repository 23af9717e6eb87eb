-- What a specification has of data and parameters, found by the rules of the format in the order of the text.
use Rattle.std.specs.Prelude.{ℕ, ◌==◌, List, [], ◌∷◌, drop, map, reverse, unwrap_or, if◌then◌else◌}
use Rattle.std.specs.List.{enumerate_from}
use Rattle.json_exact.specs.declared.json.Json.{Json, out-Json}
use Rattle.json_exact.specs.Inside.{items_in}
use Rattle.spec_walk.specs.Walk.{seen_in}
use Rattle.vl_schema.specs.Schema.{vl_schema}
use Rattle.vl_schema.specs.declared.codes.TheConstants.{DATA, PARAMETERS, TOP}
use Rattle.vl_building.specs.declared.data.DataAt.{DataAt}
use Rattle.vl_building.specs.declared.data.ParamAt.{ParamAt}
use Rattle.vl_building.specs.declared.gather.Around.{Around}
use Rattle.tree_readers.specs.Parts.{members_of}
use Rattle.vl_building.specs.Marks.{param_of}
use Rattle.vl_building.specs.Sources.{data_at}
use Rattle.vl_building.specs.Views.{Place, child}

-- the values round a value, from itself outwards
abbrev pub Trail : Type 0
Trail = List Around

-- what is noted of a value: its number among its parent's children, and its shape
abbrev pub noted : ℕ → ℕ → Json → Around
noted number shape tree = record { number = number; shape = shape }

-- where a value stands: the numbers from the top on, without that of the top itself
abbrev pub place_of : Trail → Place
place_of trail = drop 1 (map (λ (a : Around). a.number) (reverse trail))

-- the items of a value, none where it is no list
abbrev pub items_of : Json → List Json
items_of tree = unwrap_or (items_in (out-Json tree)) []

-- the parameter that an item of a list at a place is
abbrev pub param_at : Place → ℕ × Json → ParamAt
param_at place item = record { place = child place item.0; param = param_of (members_of item.1) }

-- the parameters of a list at a place
abbrev pub params_in : Place → List Json → List ParamAt
params_in place items = map (param_at place) (enumerate_from 0 items)

-- the data that a value of a shape is
abbrev pub data_by : ℕ → Place → Json → List DataAt
data_by shape place tree = if shape == DATA then data_at place (members_of tree) ∷ [] else []

-- the parameters that stand in a value of a shape
abbrev pub params_by : ℕ → Place → Json → List ParamAt
params_by shape place tree = if shape == PARAMETERS then params_in place (items_of tree) else []

-- the data that the visit of a value finds
abbrev pub data_seen : Trail → Json → List DataAt
data_seen [] tree = []
data_seen (here ∷ round) tree = data_by here.shape (place_of (here ∷ round)) tree

-- the parameters that it finds
abbrev pub params_seen : Trail → Json → List ParamAt
params_seen [] tree = []
params_seen (here ∷ round) tree = params_by here.shape (place_of (here ∷ round)) tree

-- what visits of all values find, from the top on in the order of the text
abbrev pub gathered : {A : Type 0} → (Trail → Json → List A) → Json → List A
gathered seen tree = seen_in vl_schema noted seen tree 0 TOP []

-- the data of a specification, in the order of the text
abbrev pub data_of : Json → List DataAt
data_of = gathered data_seen

-- its parameters, in the order of the text
abbrev pub params_of : Json → List ParamAt
params_of = gathered params_seen
