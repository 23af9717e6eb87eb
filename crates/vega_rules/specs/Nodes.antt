-- The parts that need something or are needed: signals, transforms, sources and data sets. Each is found by its place.
use Rattle.std.specs.Prelude.{ℕ, Bool, true, false, Option, Some, None, List, ◌∷◌, if◌then◌else◌, bytes_eq}
use Rattle.std.specs.List.{position_from}
use Rattle.vega_parts.specs.declared.part.Part.{Part}
use Rattle.vega_parts.specs.declared.part.Part.TheVariants as part
use Rattle.vega_parts.specs.declared.part.Given.{Given}
use Rattle.vega_parts.specs.declared.part.Given.TheVariants as given
use Rattle.vega_parts.specs.declared.part.GivenName.{GivenName}
use Rattle.vega_parts.specs.declared.part.UsedName.{UsedName}
use Rattle.vega_rules.specs.Places.{parent}
use Rattle.vega_rules.specs.Folds.{is_source}
use Rattle.vega_rules.specs.declared.nodes.Thing.{Thing}
use Rattle.vega_rules.specs.declared.nodes.Thing.TheVariants as thing

-- a number for each kind of things
abbrev pub number_of : Thing → ℕ
number_of thing.Signal = 0
number_of thing.Step = 1
number_of thing.Source = 2
number_of thing.Set = 3

-- the key of a thing. The place of a signal is that of what has the name: of the signal, or of the extent; that of a source is
-- the place of its data set
abbrev pub key : Thing → List ℕ → List ℕ
key thing place = number_of thing ∷ place

-- a name is that of a signal
abbrev pub is_signal : Given → Bool
is_signal given.Data = false
is_signal given.Source = false
is_signal given.Facet = false
is_signal given.Signal = true
is_signal given.Store = false
is_signal given.Scale = false
is_signal given.FacetName = false
is_signal given.Selector = false
is_signal given.Header = false

-- the key of a name that is given to a signal
abbrev pub given_key : GivenName → Option (List ℕ)
given_key name = if is_signal name.kind then Some (key thing.Signal name.of) else None

-- the key of a source
abbrev pub used_key : UsedName → Option (List ℕ)
used_key name = if is_source name.kind then Some (key thing.Source (parent name.at)) else None

-- the key of a part
abbrev pub key_of : Part → Option (List ℕ)
key_of (part.Given name) = given_key name
key_of (part.Used name) = used_key name
key_of (part.Step at set) = Some (key thing.Step at)
key_of (part.Data at) = Some (key thing.Set at)
key_of other = None

-- it is this key
abbrev pub is_key : List ℕ → Option (List ℕ) → Bool
is_key k None = false
is_key k (Some own) = bytes_eq k own

-- the number of the first part that is the thing at a place
abbrev pub node_at : List Part → Thing → List ℕ → Option ℕ
node_at parts thing place = position_from (λ p. is_key (key thing place) (key_of p)) 0 parts
