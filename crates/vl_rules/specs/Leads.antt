-- Where the parts of a specification stand in its text: the steps that lead to views and to channels.
use Rattle.std.specs.Prelude.{ℕ, Bool, true, false, bytes_eq, List, [], ◌∷◌, ◌++◌, codes, filter}
use Rattle.std.specs.Option.{option_map_or}
use Rattle.std.specs.List.{fold, list_any}
use Rattle.json_exact.specs.Inside.{members_in}
use Rattle.json_exact.specs.declared.json.Json.{Json, out-Json}
use Rattle.json_exact.specs.declared.json.Member.{Member}
use Rattle.spec_walk.specs.declared.places.Step.TheVariants.{Name, Number}
use Rattle.vl_normalize.specs.Channels.{has_channel}
use Rattle.vl_compose.specs.Rounds.{KindAt, AUnit, ALayer, AFacet, AJoined, ViewAt, Round}
use Rattle.vl_compose.specs.Units.{own_channels}
use Rattle.vl_names.specs.Channels.{channel_name}
use Rattle.vl_names.specs.Views.{joined_word}
use Rattle.vl_trails.specs.Trails.{Trail, members_at, to_member, value_at}

-- to the item of this number in the member of this name
abbrev pub item_steps : List ℕ → ℕ → Trail
item_steps name number = Name name ∷ Number number ∷ []

-- from a view to the view in it of this number
abbrev pub view_steps : KindAt → ℕ → Trail
view_steps (AUnit unit) child = []
view_steps (ALayer encoding) child = item_steps (codes "layer") child
view_steps (AFacet facet) child = Name (codes "spec") ∷ []
view_steps (AJoined joined) child = item_steps (joined_word joined.joining) child

-- a view, and the steps that lead to it from the top
pub record LedAt : Type 0 where
  pub trail : Trail
  pub view : ViewAt

-- views, each in the one before, of which the first stands in this view at the end of this trail
abbrev pub led_from : Trail → KindAt → List ViewAt → List LedAt
led_from trail outer [] = []
led_from trail outer (v ∷ others) =
    record { trail = trail ++ view_steps outer v.child; view = v } ∷ led_from (trail ++ view_steps outer v.child) v.kind others

-- the views round a view and itself, from the top in
abbrev pub led : Round → List LedAt
led [] = []
led (top ∷ inside) = record { trail = []; view = top } ∷ led_from [] top.kind inside

-- the steps to the last of some views
abbrev pub last_trail : List LedAt → Trail
last_trail views = fold (λ trail (l : LedAt). l.trail) [] views

-- the steps to the view with which a round ends
abbrev pub trail_of : Round → Trail
trail_of round = last_trail (led round)

-- to the channel of a code in the encoding of a view
abbrev pub channel_in : Trail → ℕ → Trail
channel_in trail code = to_member (to_member trail (codes "encoding")) (channel_name code)

-- whether a view may have channels: a unit and a layer
abbrev pub has_encoding : KindAt → Bool
has_encoding (AUnit unit) = true
has_encoding (ALayer encoding) = true
has_encoding (AFacet facet) = false
has_encoding (AJoined joined) = false

-- whether a view itself gives the channel of a code
abbrev pub gives_channel : ℕ → LedAt → Bool
gives_channel code l = has_channel (own_channels l.view.kind) code

-- where the channel of a code stands that a unit has: in the innermost of these views that gives it
abbrev pub channel_trail : Round → ℕ → Trail
channel_trail round code = channel_in (last_trail (filter (gives_channel code) (led round))) code

-- whether the object at a trail has a member of a name, whatever it holds
abbrev pub has_name : List Member → List ℕ → Bool
has_name members name = list_any (λ (m : Member). bytes_eq m.name name) members

abbrev pub holds : Json → Trail → List ℕ → Bool
holds tree trail name = option_map_or (λ members. has_name members name) (members_at tree trail) false

-- whether it has, or what stands there is no object and might have one
abbrev pub may_have : Json → List ℕ → Bool
may_have value name = option_map_or (λ members. has_name members name) (members_in (out-Json value)) true

abbrev pub may_hold : Json → Trail → List ℕ → Bool
may_hold tree trail name = option_map_or (λ (value : Json). may_have value name) (value_at tree trail) false
