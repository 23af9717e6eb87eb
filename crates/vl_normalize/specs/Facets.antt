-- Channels that part the rows of a unit, as the facet of a view round it.
use Rattle.std.specs.Prelude.{◌≡◌, refl, ℤ, ℕ, ◌==◌, Bool, ◌||◌, Option, Some, None, List, is_some, if◌then◌else◌}
use Rattle.std.specs.Option.{option_map, option_and_then, option_or}
use Rattle.vl_spec.specs.declared.channels.Channel.{Channel, out-Channel}
use Rattle.vl_spec.specs.declared.channels.ChannelOf.{ChannelOf}
use Rattle.vl_spec.specs.declared.definitions.Definition.{Definition}
use Rattle.vl_spec.specs.declared.definitions.Definition.TheVariants as definition
use Rattle.vl_spec.specs.declared.views.Facet.{Facet}
use Rattle.vl_spec.specs.declared.views.Facet.TheVariants as facet
use Rattle.vl_normalize.specs.declared.codes.TheConstants.{ROW, COLUMN, FACET}
use Rattle.vl_normalize.specs.Channels.{shown}

-- whether a channel of this code parts rows
abbrev pub is_facet : ℕ → Bool
is_facet code = code == ROW || code == COLUMN || code == FACET

-- the facet of a row, a column and a facet: by rows and columns where one of these stands, and then `facet` drops
abbrev pub facet_by : Option Channel → Option Channel → Option Channel → Option Facet
facet_by row column wrapped =
    if is_some row || is_some column then Some (facet.Cross (record { row = row; column = column })) else option_map facet.One wrapped

-- how the channels of a unit part its rows, if they do
abbrev pub facet_of : List ChannelOf → Option Facet
facet_of channels = facet_by (shown channels ROW) (shown channels COLUMN) (shown channels FACET)

-- the space that a definition asks for between panels
abbrev pub definition_spacing : Definition → Option ℤ
definition_spacing (definition.Value cell) = None
definition_spacing (definition.Datum of) = None
definition_spacing (definition.Field of) = of.spacing

abbrev pub channel_spacing : Channel → Option ℤ
channel_spacing c = definition_spacing (out-Channel c).definition

-- the space between the panels of a facet: that of its field; by rows and columns that of the row, else that of the column
abbrev pub facet_spacing : Facet → Option ℤ
facet_spacing (facet.One c) = channel_spacing c
facet_spacing (facet.Cross of) = option_or (option_and_then channel_spacing of.row) (option_and_then channel_spacing of.column)

-- The rules at work.

a_facet_beside_a_row_drops : (r f : Channel) → facet_by (Some r) None (Some f) ≡ Some (facet.Cross (record { row = Some r; column = None }))
a_facet_beside_a_row_drops r f = refl

a_facet_alone_stays : (f : Channel) → facet_by None None (Some f) ≡ Some (facet.One f)
a_facet_alone_stays f = refl
