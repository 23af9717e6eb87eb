-- Which units share which scale, by their numbers.
use Rattle.std.specs.Prelude.{ℕ, ◌==◌, Bool, true, false, ◌||◌, Option, List, [], ◌∷◌, filter, find, flat_map, map, unwrap_or}
use Rattle.std.specs.Option.{option_map, option_map_or, option_and_then}
use Rattle.vl_spec.specs.declared.sizes.Resolve.{Resolve}
use Rattle.vl_spec.specs.declared.sizes.Sharing.{Sharing}
use Rattle.vl_spec.specs.declared.sizes.Sharing.TheVariants as sharing
use Rattle.vl_spec.specs.declared.sizes.SharingOf.{SharingOf}
use Rattle.vl_spec.specs.declared.spec.VlSpec.{VlSpec}
use Rattle.vl_normalize.specs.declared.codes.TheConstants.{X, Y, COLOR, OPACITY, SIZE, SHAPE}
use Rattle.vl_compose.specs.declared.groups.Homed.{Homed}
use Rattle.vl_compose.specs.declared.views.SharedScale.{SharedScale}
use Rattle.vl_compose.specs.Definitions.{definitions_at}
use Rattle.vl_compose.specs.Rounds.{KindAt, AUnit, ALayer, AFacet, AJoined, ViewAt, Round}
use Rattle.vl_compose.specs.Units.{UnitAt, units_of}
use Rattle.vl_compose.specs.Views.{behind, first_number}

-- what a view says of a channel
abbrev pub sharing_said : Option Resolve → ℕ → Option Sharing
sharing_said resolve code =
    option_map (λ (s : SharingOf). s.sharing)
    (find (λ (s : SharingOf). s.channel == code) (unwrap_or (option_and_then (λ (r : Resolve). r.scale) resolve) []))

abbrev pub is_independent : Sharing → Bool
is_independent sharing.Shared = false
is_independent sharing.Independent = true

-- Whether the views in a view have each a scale of their own for a channel, by what the view says of it: those of a layer and of a facet share
-- it where nothing is said, and joined views all but `x` and `y`. What a unit says means nothing.
abbrev pub separates_by : KindAt → ℕ → Option Sharing → Bool
separates_by (AUnit unit) code said = false
separates_by (ALayer encoding) code said = option_map_or is_independent said false
separates_by (AFacet facet) code said = option_map_or is_independent said false
separates_by (AJoined joined) code said = option_map_or is_independent said (code == X || code == Y)

abbrev pub separates : ℕ → ViewAt → Bool
separates code v = separates_by v.kind code (sharing_said v.resolve code)

-- the view up to which a view shares a channel: the outermost view round it, or itself, inside the innermost view that separates the channel; the top where
-- none does
abbrev pub home_of : Round → ℕ → ℕ
home_of round code = first_number (behind (separates code) round)

-- whether a unit has a scale for a channel
abbrev pub is_filled : {A : Type 0} → List A → Bool
is_filled [] = false
is_filled (first ∷ others) = true

abbrev pub has_scale : ℕ → UnitAt → Bool
has_scale code unit = is_filled (definitions_at unit.channels code)

-- the units that have a scale for a channel, each with the view up to which it is shared
abbrev pub homed : ℕ → UnitAt → Homed
homed code unit = record { number = unit.number; home = home_of unit.round code }

abbrev pub homed_for : ℕ → List UnitAt → List Homed
homed_for code units = map (homed code) (filter (has_scale code) units)

-- the numbers of those that share it up to a view
abbrev pub sharing_at : List Homed → ℕ → List ℕ
sharing_at all home = map (λ (h : Homed). h.number) (filter (λ (h : Homed). h.home == home) all)

-- whether a number comes first
abbrev pub is_first : ℕ → List ℕ → Bool
is_first n [] = false
is_first n (first ∷ others) = first == n

-- whether a unit is the first of those with which it shares a scale
abbrev pub leads : List Homed → Homed → Bool
leads all h = is_first h.number (sharing_at all h.home)

-- the scale that a unit shares with others
abbrev pub group_at : ℕ → List Homed → Homed → SharedScale
group_at code all h = record { channel = code; units = sharing_at all h.home }

-- the scales of a channel, in the order of their first units
abbrev pub groups_among : ℕ → List Homed → List SharedScale
groups_among code all = map (group_at code all) (filter (leads all) all)

abbrev pub shared_by : List UnitAt → ℕ → List SharedScale
shared_by units code = groups_among code (homed_for code units)

-- the channels that have scales, in the order of their codes
abbrev pub scale_channels : List ℕ
scale_channels = X ∷ Y ∷ COLOR ∷ OPACITY ∷ SIZE ∷ SHAPE ∷ []

-- all scales of some units, channel by channel
abbrev pub shared_scales : List UnitAt → List SharedScale
shared_scales units = flat_map (shared_by units) scale_channels

-- all scales of a specification
abbrev pub resolve_of : VlSpec → List SharedScale
resolve_of s = shared_scales (units_of s)
