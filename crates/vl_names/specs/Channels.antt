-- Unknown names in channels.
use Rattle.std.specs.Prelude.{ℕ, not, Option, Some, None, List, [], ◌++◌, codes, flat_map, map, slice_get, unwrap_or}
use Rattle.std.specs.Option.{option_map_or, option_and_then}
use Rattle.case_table.specs.Names.{channels}
use Rattle.vl_spec.specs.declared.channels.Channel.{Channel, Channel-F, fold-Channel}
use Rattle.vl_spec.specs.declared.channels.ChannelKind.{ChannelKind}
use Rattle.vl_spec.specs.declared.channels.ChannelKind.TheVariants as channel_kind
use Rattle.vl_spec.specs.declared.channels.ChannelOf.{ChannelOf}
use Rattle.vl_spec.specs.declared.channels.Condition.{Condition-F}
use Rattle.vl_spec.specs.declared.channels.Conditions.{Conditions-F}
use Rattle.vl_spec.specs.declared.channels.Conditions.TheOpen as level
use Rattle.vl_spec.specs.declared.channels.Encoding.{Encoding}
use Rattle.vl_spec.specs.declared.channels.Test.{Test}
use Rattle.vl_spec.specs.declared.channels.Test.TheVariants as test
use Rattle.vl_spec.specs.declared.definitions.Definition.{Definition}
use Rattle.vl_spec.specs.declared.definitions.Definition.TheVariants as definition
use Rattle.vl_spec.specs.declared.scales.Domain.{Domain}
use Rattle.vl_spec.specs.declared.scales.Domain.TheVariants as domain
use Rattle.vl_spec.specs.declared.scales.Scale.{Scale}
use Rattle.vl_spec.specs.declared.views.Facet.{Facet}
use Rattle.vl_spec.specs.declared.views.Facet.TheVariants as facet
use Rattle.vl_trails.specs.Faults.{wrong_if}
use Rattle.vl_trails.specs.Trails.{Trail, to_member}
use Rattle.vl_names.specs.Known.{Known}
use Rattle.vl_names.specs.Filters.{Judged, each_item, param_test_faults, filter_faults}

-- the scale of a definition
abbrev pub scale_in : Definition → Option Scale
scale_in (definition.Value cell) = None
scale_in (definition.Datum of) = of.scale
scale_in (definition.Field of) = of.scale

-- the parameter that gives a domain
abbrev pub param_of_domain : Domain → Option (List ℕ)
param_of_domain (domain.Cells cells) = None
param_of_domain (domain.Param of) = Some of.param

abbrev pub domain_param : Definition → Option (List ℕ)
domain_param d = option_and_then param_of_domain (option_and_then (λ (s : Scale). s.domain) (scale_in d))

-- the trail from a definition to the parameter that gives the domain of its scale
abbrev pub to_domain_param : Trail → Trail
to_domain_param trail = to_member (to_member (to_member trail (codes "scale")) (codes "domain")) (codes "param")

-- a domain that an unknown parameter gives is wrong at its `param`
abbrev pub definition_faults : Known → Definition → Judged
definition_faults known d trail =
    option_map_or (λ name. wrong_if (not (known.param name)) (to_domain_param trail)) (domain_param d) []

-- a condition's test: by a parameter, or by a filter
abbrev pub test_faults : Known → Test → Judged
test_faults known (test.Param of) trail = param_test_faults known of trail
test_faults known (test.Filter filter) trail = filter_faults known filter (to_member trail (codes "test"))

-- a channel's definition, and its conditions; what a condition shows are members of its own
abbrev pub channel_here : Known → Channel-F Judged Judged Judged → Judged
channel_here known c trail =
    definition_faults known c.definition trail ++ option_map_or (λ (held : Judged). held (to_member trail (codes "condition"))) c.condition []

abbrev pub conditions_here : Conditions-F Judged Judged Judged → Judged
conditions_here (level.One condition) = condition
conditions_here (level.Several conditions) = each_item conditions

abbrev pub condition_here : Known → Condition-F Judged Judged Judged → Judged
condition_here known c trail = test_faults known c.test trail ++ c.shows trail

abbrev pub channel_faults : Known → Channel → Judged
channel_faults known = fold-Channel Judged Judged Judged conditions_here (channel_here known) (condition_here known)

-- the name of a channel by its code
unfoldable pub channel_name : ℕ → List ℕ
channel_name code = unwrap_or (slice_get channels code) []

-- what a channel shows
abbrev pub shown_faults : Known → ChannelKind → Judged
shown_faults known (channel_kind.One channel) = channel_faults known channel
shown_faults known (channel_kind.Several several) = each_item (map (channel_faults known) several)

-- a channel of an encoding, under its name
abbrev pub channel_of_faults : Known → ChannelOf → Judged
channel_of_faults known c trail = shown_faults known c.shows (to_member trail (channel_name c.channel))

-- several channels
abbrev pub channels_faults : Known → List ChannelOf → Judged
channels_faults known channels trail = flat_map (λ (c : ChannelOf). channel_of_faults known c trail) channels

-- the channels of an encoding
abbrev pub encoding_faults : Known → Encoding → Judged
encoding_faults known encoding = channels_faults known encoding.channels

-- a channel that may be absent, under a name
abbrev pub channel_at_faults : Known → Option Channel → List ℕ → Judged
channel_at_faults known channel name trail = option_map_or (λ c. channel_faults known c (to_member trail name)) channel []

-- how rows are parted: by one definition, or by rows and columns
abbrev pub facet_faults : Known → Facet → Judged
facet_faults known (facet.One channel) trail = channel_faults known channel trail
facet_faults known (facet.Cross of) trail =
    channel_at_faults known of.row (codes "row") trail ++ channel_at_faults known of.column (codes "column") trail
