-- What a unit shows: the definitions of its channels, each with the code of its channel, those of conditions before the channel's own; and the
-- definitions of the facets round it, the outer ones first, by which its rows are parted. Values, which show no cell of a row, are among them and
-- add nothing below.
use Rattle.std.specs.Prelude.{ℕ, Option, Some, None, List, [], ◌∷◌, ◌++◌, flat_map, map}
use Rattle.vl_spec.specs.declared.channels.Channel.{Channel, out-Channel}
use Rattle.vl_spec.specs.declared.channels.ChannelOf.{ChannelOf}
use Rattle.vl_spec.specs.declared.definitions.Definition.{Definition}
use Rattle.vl_spec.specs.declared.definitions.Definition.TheVariants as definition
use Rattle.vl_spec.specs.declared.definitions.FieldDefinition.{FieldDefinition}
use Rattle.vl_spec.specs.declared.views.Facet.{Facet}
use Rattle.vl_spec.specs.declared.views.Facet.TheVariants as facet
use Rattle.vl_normalize.specs.declared.codes.TheConstants.{ROW, COLUMN, FACET}
use Rattle.vl_compose.specs.Rounds.{KindAt, AUnit, ALayer, AFacet, AJoined, ViewAt}
use Rattle.vl_compose.specs.Units.{UnitAt}
use Rattle.unit_plan.specs.Branches.{Branch, branches_in}

-- a definition with the code of its channel
pub record ShownAt : Type 0 where
  pub channel : ℕ
  pub shows : Definition

abbrev pub branch_shows : ℕ → Branch → ShownAt
branch_shows channel b = record { channel = channel; shows = b.shows }

abbrev pub channel_shows : ChannelOf → List ShownAt
channel_shows c = map (branch_shows c.channel) (branches_in c.shows)

-- what the channels of a unit show
abbrev pub own_shows : UnitAt → List ShownAt
own_shows unit = flat_map channel_shows unit.channels

-- what the channel of a facet shows, where it has that channel
abbrev pub part_shows : ℕ → Option Channel → List ShownAt
part_shows code None = []
part_shows code (Some c) = record { channel = code; shows = (out-Channel c).definition } ∷ []

abbrev pub facet_shows_by : Facet → List ShownAt
facet_shows_by (facet.One c) = part_shows FACET (Some c)
facet_shows_by (facet.Cross of) = part_shows ROW of.row ++ part_shows COLUMN of.column

abbrev pub kind_shows : KindAt → List ShownAt
kind_shows (AUnit unit) = []
kind_shows (ALayer encoding) = []
kind_shows (AFacet f) = facet_shows_by f.facet
kind_shows (AJoined joined) = []

-- what the facets round a unit show
abbrev pub facet_shows : UnitAt → List ShownAt
facet_shows unit = flat_map (λ (v : ViewAt). kind_shows v.kind) unit.round

-- all of them
abbrev pub shows_of : UnitAt → List ShownAt
shows_of unit = own_shows unit ++ facet_shows unit

-- the definition by a field that is shown, if it is one
abbrev pub field_in : Definition → Option FieldDefinition
field_in (definition.Value cell) = None
field_in (definition.Datum d) = None
field_in (definition.Field d) = Some d
