-- Which part needs which by itself, by the numbers of parts. In all definitions `node` gives the number of the part that is the
-- thing at a place.
use Rattle.std.specs.Prelude.{ℕ, ◌-◌, ◌==◌, ◌&&◌, Bool, is_some, Option, Some, None, List, [], ◌∷◌, ◌++◌, length}
use Rattle.std.specs.Prelude.{if◌then◌else◌, slice_get, unwrap_or}
use Rattle.std.specs.Option.{option_or, option_and_then}
use Rattle.vega_parts.specs.declared.part.Part.{Part}
use Rattle.vega_parts.specs.declared.part.Part.TheVariants as part
use Rattle.vega_parts.specs.declared.part.GivenName.{GivenName}
use Rattle.vega_parts.specs.declared.part.UsedName.{UsedName}
use Rattle.vega_parts.specs.declared.part.Used.{Used}
use Rattle.vega_parts.specs.declared.part.Used.TheVariants as used
use Rattle.vega_rules.specs.Places.{fronts, parent}
use Rattle.vega_rules.specs.Resolved.{resolved_use}
use Rattle.vega_rules.specs.declared.nodes.Thing.{Thing}
use Rattle.vega_rules.specs.declared.nodes.Thing.TheVariants as thing
use Rattle.vega_rules.specs.Nodes.{is_signal}

-- one part needs another, where both are there
abbrev pub need : Option ℕ → Option ℕ → List (ℕ × ℕ)
need None to = []
need (Some from) None = []
need (Some from) (Some to) = (from, to) ∷ []

-- the transform or the signal at a place
abbrev pub reader_at : (Thing → List ℕ → Option ℕ) → List ℕ → Option ℕ
reader_at node place = option_or (node thing.Step place) (node thing.Signal place)

-- the first that is found
abbrev pub first_found : (List ℕ → Option ℕ) → List (List ℕ) → Option ℕ
first_found look [] = None
first_found look (place ∷ places) = option_or (look place) (first_found look places)

-- the transform or the signal in which a place is
abbrev pub reader : (Thing → List ℕ → Option ℕ) → List ℕ → Option ℕ
reader node place = first_found (reader_at node) (fronts place)

-- the thing that has the name which a used name means. The rows of a facet are no data set
abbrev pub meant : (Thing → List ℕ → Option ℕ) → List Part → Thing → UsedName → Option ℕ
meant node parts thing u = option_and_then (λ (name : GivenName). node thing name.of) (resolved_use parts u)

-- the last number of a place
abbrev pub last_number : List ℕ → ℕ
last_number place = unwrap_or (slice_get place (length place - 1)) 0

-- what stands before the transform at a place: the one before it in its list, and before the first one the source of the data set
abbrev pub before : (Thing → List ℕ → Option ℕ) → List ℕ → Option ℕ
before node place =
    if last_number place == 0 then node thing.Source (parent (parent place))
    else node thing.Step (parent place ++ (last_number place - 1) ∷ [])

-- what reads a signal needs it
abbrev pub signal_needs : (Thing → List ℕ → Option ℕ) → List Part → UsedName → List (ℕ × ℕ)
signal_needs node parts u = need (reader node u.at) (meant node parts thing.Signal u)

-- a lookup needs the data set that it looks up
abbrev pub from_needs : (Thing → List ℕ → Option ℕ) → List Part → UsedName → List (ℕ × ℕ)
from_needs node parts u = need (reader node u.at) (meant node parts thing.Set u)

-- a source needs the data set that it means, and a data set needs its source
abbrev pub source_needs : (Thing → List ℕ → Option ℕ) → List Part → UsedName → List (ℕ × ℕ)
source_needs node parts u =
    need (node thing.Source (parent u.at)) (meant node parts thing.Set u)
    ++ need (node thing.Set (parent u.at)) (node thing.Source (parent u.at))

-- what is needed where a name is used
abbrev pub used_needs : (Thing → List ℕ → Option ℕ) → List Part → Used → UsedName → List (ℕ × ℕ)
used_needs node parts used.Source u = source_needs node parts u
used_needs node parts used.From u = from_needs node parts u
used_needs node parts used.MarkRows u = []
used_needs node parts used.FacetRows u = []
used_needs node parts used.Domain u = []
used_needs node parts used.Signal u = signal_needs node parts u
used_needs node parts used.Store u = []
used_needs node parts used.Scale u = []
used_needs node parts used.SizedScale u = []
used_needs node parts used.MarkBelow u = []

-- the name is that of the signal of an extent, which is a transform
abbrev pub is_extent : (Thing → List ℕ → Option ℕ) → GivenName → Bool
is_extent node name = is_signal name.kind && is_some (node thing.Step name.of)

-- the signal of an extent needs what stands before the extent
abbrev pub given_needs : (Thing → List ℕ → Option ℕ) → GivenName → List (ℕ × ℕ)
given_needs node name = if is_extent node name then need (node thing.Signal name.of) (before node name.of) else []

-- a data set needs its transforms, and each of them what stands before it
abbrev pub step_needs : (Thing → List ℕ → Option ℕ) → List ℕ → List ℕ → List (ℕ × ℕ)
step_needs node at set = need (node thing.Set set) (node thing.Step at) ++ need (node thing.Step at) (before node at)

-- the needs that a part shows
abbrev pub needs_by : (Thing → List ℕ → Option ℕ) → List Part → Part → List (ℕ × ℕ)
needs_by node parts (part.Used u) = used_needs node parts u.kind u
needs_by node parts (part.Given name) = given_needs node name
needs_by node parts (part.Step at set) = step_needs node at set
needs_by node parts other = []
