-- The units that selections concern: a line with points is two of them here, the line and its points.
use Rattle.std.specs.Prelude.{ℕ, ◌==◌, Bool, false, ◌||◌, ◌&&◌, Option, Some, None, List, [], ◌∷◌, ◌++◌, filter_map, find, flat_map}
use Rattle.std.specs.Prelude.{is_some, map, unwrap_or, if◌then◌else◌}
use Rattle.std.specs.Option.{option_map_or, option_to_list}
use Rattle.std.specs.List.{last_or, list_any}
use Rattle.vl_spec.specs.declared.channels.Channel.{Channel, Channel-F, fold-Channel, out-Channel}
use Rattle.vl_spec.specs.declared.channels.ChannelKind.{ChannelKind}
use Rattle.vl_spec.specs.declared.channels.ChannelKind.TheVariants as channel_kind
use Rattle.vl_spec.specs.declared.channels.ChannelOf.{ChannelOf}
use Rattle.vl_spec.specs.declared.channels.Condition.{Condition-F}
use Rattle.vl_spec.specs.declared.channels.Conditions.{Conditions-F}
use Rattle.vl_spec.specs.declared.channels.Conditions.TheOpen as level
use Rattle.vl_spec.specs.declared.definitions.Definition.{Definition}
use Rattle.vl_spec.specs.declared.definitions.Definition.TheVariants as definition
use Rattle.vl_spec.specs.declared.marks.Mark.{Mark}
use Rattle.vl_spec.specs.declared.marks.Mark.TheVariants as mark
use Rattle.vl_spec.specs.declared.marks.MarkType.TheVariants as mark_type
use Rattle.vl_spec.specs.declared.views.Facet.{Facet}
use Rattle.vl_spec.specs.declared.views.Facet.TheVariants as facet
use Rattle.vl_normalize.specs.declared.codes.TheConstants.{ROW, COLUMN, FACET}
use Rattle.vl_normalize.specs.Channels.{has_channel, shown}
use Rattle.vl_normalize.specs.Facets.{is_facet}
use Rattle.vl_normalize.specs.Marks.{pointed, used}
use Rattle.vl_compose.specs.Rounds.{KindAt, AUnit, ALayer, AFacet, AJoined, ViewAt}
use Rattle.scale_infer.specs.Types.{is_aggregated}
use Rattle.vl_rules.specs.Marked.{MarkedAt}

-- A unit with the channels that its mark has a use for. Its number is 0, and 1 for the points of a line.
pub record PartAt : Type 0 where
  pub unit : MarkedAt
  pub number : ℕ
  pub channels : List ChannelOf

abbrev pub part_with : MarkedAt → ℕ → Option Mark → PartAt
part_with u number m = record { unit = u; number = number; channels = used m u.channels }

abbrev pub line_and_points : MarkedAt → List PartAt
line_and_points u = part_with u 0 (Some (mark.Type mark_type.Line)) ∷ part_with u 1 (Some (mark.Type mark_type.Point)) ∷ []

abbrev pub parts_of : MarkedAt → List PartAt
parts_of u = if is_some (pointed u.mark) then line_and_points u else part_with u 0 u.mark ∷ []

-- whether some channels part rows
abbrev pub facet_among : List ChannelOf → Bool
facet_among channels = has_channel channels ROW || has_channel channels COLUMN || has_channel channels FACET

-- whether those of a unit do
abbrev pub has_facet : MarkedAt → Bool
has_facet u = facet_among u.channels

-- the definition of the rows, the columns or the panels of a facet
abbrev pub facet_part : ℕ → Facet → Option Channel
facet_part code (facet.One c) = if code == FACET then Some c else None
facet_part code (facet.Cross of) = if code == ROW then of.row else (if code == COLUMN then of.column else None)

abbrev pub view_part : ℕ → KindAt → Option Channel
view_part code (AUnit unit) = None
view_part code (ALayer encoding) = None
view_part code (AFacet at) = facet_part code at.facet
view_part code (AJoined joined) = None

-- the same among the channels of a unit: `facet` beside `row` or `column` drops
abbrev pub own_part : ℕ → List ChannelOf → Option Channel
own_part code channels =
    if code == FACET && (has_channel channels ROW || has_channel channels COLUMN) then None else shown channels code

-- those of the facets round a unit, from the outside in
abbrev pub round_parts : ℕ → MarkedAt → List Channel
round_parts code u = filter_map (λ (v : ViewAt). view_part code v.kind) u.round ++ option_to_list (own_part code u.channels)

-- the last of some channels: that of the innermost facet
abbrev pub innermost : List Channel → Option Channel
innermost parts = last_or None parts

-- what a channel shows where no condition holds
abbrev pub own_of : Channel → Definition
own_of c = (out-Channel c).definition

abbrev pub owns_of : ChannelKind → List Definition
owns_of (channel_kind.One c) = own_of c ∷ []
owns_of (channel_kind.Several cs) = map own_of cs

-- the definitions of the channel of a code among some channels, without those of conditions
abbrev pub owns_at : List ChannelOf → ℕ → List Definition
owns_at channels code = option_map_or (λ (c : ChannelOf). owns_of c.shows) (find (λ (c : ChannelOf). c.channel == code) channels) []

-- What a selection over a channel means in a unit: its own definitions, several for `detail`. Rows, columns and panels are those of the innermost facet
-- that has such.
abbrev pub meant : ℕ → PartAt → List Definition
meant code p = if is_facet code then map own_of (option_to_list (innermost (round_parts code p.unit))) else owns_at p.channels code

-- whether a definition has a field or an aggregate
abbrev pub has_source : Definition → Bool
has_source (definition.Value cell) = false
has_source (definition.Datum d) = false
has_source (definition.Field d) = is_some d.field || is_some d.aggregate

-- ---- all definitions of a channel: its own, and those of its conditions

abbrev pub channel_here : Channel-F (List Definition) (List Definition) (List Definition) → List Definition
channel_here c = c.definition ∷ unwrap_or c.condition []

abbrev pub conditions_here : Conditions-F (List Definition) (List Definition) (List Definition) → List Definition
conditions_here (level.One condition) = condition
conditions_here (level.Several conditions) = flat_map (λ ds. ds) conditions

abbrev pub condition_here : Condition-F (List Definition) (List Definition) (List Definition) → List Definition
condition_here c = c.shows

abbrev pub all_of : Channel → List Definition
all_of = fold-Channel (List Definition) (List Definition) (List Definition) conditions_here channel_here condition_here

abbrev pub kind_definitions : ChannelKind → List Definition
kind_definitions (channel_kind.One c) = all_of c
kind_definitions (channel_kind.Several cs) = flat_map all_of cs

-- ---- units that are aggregated

-- whether a unit is aggregated: a definition of one of its channels shows an aggregate
abbrev pub shows_aggregate : ChannelOf → Bool
shows_aggregate c = list_any is_aggregated (kind_definitions c.shows)

abbrev pub is_aggregated_part : PartAt → Bool
is_aggregated_part p = list_any shows_aggregate p.channels
