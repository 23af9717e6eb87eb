-- Channels, and their conditions.
use Rattle.std.specs.Prelude.{◌≡◌, refl, ℕ, Option, Some, None, List, [], map, codes, if◌then◌else◌}
use Rattle.std.specs.Option.{option_map, option_and_then}
use Rattle.std.specs.List.{filter_map}
use Rattle.std.specs.Str.{bytes_eq}
use Rattle.json_exact.specs.declared.json.Json.{Json, out-Json}
use Rattle.json_exact.specs.declared.json.Json.TheVariants as json
use Rattle.json_exact.specs.declared.json.Json.TheOpen as level
use Rattle.json_exact.specs.declared.json.Member.{Member}
use Rattle.vl_spec.specs.declared.channels.Channel.{Channel, roll-Channel}
use Rattle.vl_spec.specs.declared.channels.Condition.{Condition, roll-Condition}
use Rattle.vl_spec.specs.declared.channels.Conditions.{Conditions}
use Rattle.vl_spec.specs.declared.channels.Conditions.TheVariants as conditions
use Rattle.vl_spec.specs.declared.channels.Test.{Test}
use Rattle.vl_spec.specs.declared.channels.Test.TheVariants as test
use Rattle.vl_spec.specs.declared.channels.Encoding.{Encoding}
use Rattle.vl_spec.specs.declared.channels.ChannelOf.{ChannelOf}
use Rattle.vl_spec.specs.declared.channels.ChannelKind.{ChannelKind}
use Rattle.vl_spec.specs.declared.channels.ChannelKind.TheVariants as channel_kind
use Rattle.tree_readers.specs.Parts.{Opened, has_member, members_of}
use Rattle.vl_building.specs.Inside.{Giving, given_by, member_gives}
use Rattle.vl_building.specs.Names.{channel_named}
use Rattle.vl_building.specs.Definitions.{definition_of}
use Rattle.vl_building.specs.Filters.{param_test_of, needed_filter}

-- when a condition holds: by its filter, or else by its parameter
unfoldable pub test_of : List Member → Test
test_of members =
    if has_member members (codes "test") then test.Filter (needed_filter members (codes "test"))
    else test.Param (param_test_of members)

-- a definition of a channel, its conditions being these
unfoldable pub channel_with : List Member → Option Conditions → Channel
channel_with members held = roll-Channel (record { definition = definition_of members; condition = held })

-- what a value is as a condition, and what it is as conditions
abbrev pub AsCondition : Type 0
AsCondition = Condition × Option Conditions

-- the conditions that a member holds
abbrev pub conditions_given : Option AsCondition → Option Conditions
conditions_given given = option_and_then (λ (c : AsCondition). c.1) given

-- a condition that shows this
unfoldable pub condition_showing : List Member → Channel → Condition
condition_showing members channel = roll-Condition (record { test = test_of members; shows = channel })

-- a condition, by its members and by what they hold
abbrev pub condition_with : List Member → (List ℕ → Option AsCondition) → Condition
condition_with members inside =
    condition_showing members (channel_with members (conditions_given (inside (codes "condition"))))

-- conditions: an object is one that stands alone, and a list several
abbrev pub conditions_in : Opened → Condition → List AsCondition → Option Conditions
conditions_in (level.Object members) alone items = Some (conditions.One alone)
conditions_in (level.List trees) alone items = Some (conditions.Several (map (λ (c : AsCondition). c.0) items))
conditions_in other alone items = None

-- what a value gives
abbrev pub as_condition_with : Giving AsCondition
as_condition_with tree inside items =
    (condition_with (members_of tree) inside, conditions_in (out-Json tree) (condition_with (members_of tree) inside) items)

-- what a value is as a condition, and what it is as conditions
abbrev pub as_condition : Json → AsCondition
as_condition = given_by as_condition_with

-- the condition that a value is
abbrev pub condition_of : Json → Condition
condition_of tree = (as_condition tree).0

-- the conditions that a value is
abbrev pub conditions_of : Json → Option Conditions
conditions_of tree = (as_condition tree).1

-- the conditions under a name
abbrev pub conditions_at : List Member → List ℕ → Option Conditions
conditions_at members name = conditions_given (member_gives as_condition members name)

-- a definition of a channel
abbrev pub channel_of : List Member → Channel
channel_of members = channel_with members (conditions_at members (codes "condition"))

-- a list of definitions, for `detail` alone
abbrev pub several_in : List ℕ → List Json → Option ChannelKind
several_in name items =
    if bytes_eq name (codes "detail") then Some (channel_kind.Several (map (λ tree. channel_of (members_of tree)) items)) else None

-- what a channel shows
abbrev pub shown_in : List ℕ → Opened → Option ChannelKind
shown_in name (level.Object members) = Some (channel_kind.One (channel_of members))
shown_in name (level.List items) = several_in name items
shown_in name other = None

-- a channel of this code
abbrev pub channel_coded : List ℕ → Json → ℕ → Option ChannelOf
channel_coded name tree code = option_map (λ shown. record { channel = code; shows = shown }) (shown_in name (out-Json tree))

-- the channel that a member is, if it is one
unfoldable pub channel_in : Member → Option ChannelOf
channel_in m = option_and_then (channel_coded m.name m.value) (channel_named m.name)

-- the channels of a view
unfoldable pub encoding_of : List Member → Encoding
encoding_of members = record { channels = filter_map channel_in members }

-- The rules at work.

details_may_be_a_list : shown_in (codes "detail") (level.List []) ≡ Some (channel_kind.Several [])
details_may_be_a_list = refl

no_other_channel : shown_in (codes "x") (level.List []) ≡ None
no_other_channel = refl

a_tooltip_is_not_read : channel_in (record { name = codes "tooltip"; value = json.Null }) ≡ None
unfolding channel_in
a_tooltip_is_not_read = refl

no_conditions : conditions_in level.Null (condition_showing [] (channel_with [] None)) [] ≡ None
no_conditions = refl
