-- The Vega-Lite specification of a chart of the first form: bars of its values, each on the band of its category and as high as its amount, without
-- axes. Its two channels stand in either order.
use Rattle.std.specs.Prelude.{◌≡◌, refl, ℕ, Bool, true, false, Option, Some, None, List, [], ◌∷◌, map, if◌then◌else◌}
use Rattle.json_exact.specs.declared.json.Json.{Json}
use Rattle.vl_spec.specs.declared.channels.Channel.{Channel, Channel-F, roll-Channel}
use Rattle.vl_spec.specs.declared.channels.ChannelKind.TheVariants as channel_kind
use Rattle.vl_spec.specs.declared.channels.ChannelOf.{ChannelOf}
use Rattle.vl_spec.specs.declared.channels.Condition.{Condition}
use Rattle.vl_spec.specs.declared.channels.Conditions.{Conditions}
use Rattle.vl_spec.specs.declared.definitions.Definition.TheVariants as definition
use Rattle.vl_spec.specs.declared.definitions.FieldDefinition.{FieldDefinition}
use Rattle.vl_spec.specs.declared.definitions.FieldType.{FieldType}
use Rattle.vl_spec.specs.declared.definitions.FieldType.TheVariants.{Quantitative, Nominal}
use Rattle.vl_spec.specs.declared.marks.Mark.{Mark}
use Rattle.vl_spec.specs.declared.marks.Mark.TheVariants as mark
use Rattle.vl_spec.specs.declared.marks.MarkType.TheVariants as mark_type
use Rattle.vl_spec.specs.declared.spec.VlSpec.{VlSpec}
use Rattle.vl_spec.specs.declared.views.View.{View}
use Rattle.vl_normalize.specs.declared.codes.TheConstants.{X, Y}
use Rattle.vl_normalize.specs.declared.heads.Head.{Head}
use Rattle.vl_normalize.specs.Heads.{no_head, view_of}
use Rattle.vl_normalize.specs.Normal.{unit_of}
use Rattle.first_form.specs.declared.form.FirstForm.{FirstForm}

-- a field of this type without an axis
abbrev pub field_of : List ℕ → FieldType → FieldDefinition
field_of name type_ = record {
  field = Some name;
  type_ = Some type_;
  aggregate = None;
  bin = None;
  time_unit = None;
  title = None;
  sort = None;
  scale = None;
  stack = None;
  axis = Some None;
  legend = None;
  header = None;
  format = None;
  columns = None;
  spacing = None;
}

-- a channel that shows it for every row
abbrev pub channel_parts : List ℕ → FieldType → Channel-F Conditions Channel Condition
channel_parts name type_ = record { definition = definition.Field (field_of name type_); condition = None }

abbrev pub channel_of : ℕ → List ℕ → FieldType → ChannelOf
channel_of code name type_ = record { channel = code; shows = channel_kind.One (roll-Channel (channel_parts name type_)) }

-- the categories along x, and the amounts along y
abbrev pub along : FirstForm → ChannelOf
along form = channel_of X form.x Nominal

abbrev pub upward : FirstForm → ChannelOf
upward form = channel_of Y form.y Quantitative

abbrev pub channels_of : Bool → FirstForm → List ChannelOf
channels_of y_first form = if y_first then upward form ∷ along form ∷ [] else along form ∷ upward form ∷ []

-- the view over the rows of the name
abbrev pub head_of : FirstForm → Head
head_of form = record no_head { data_ = Some form.name }

abbrev pub bar : Option Mark
bar = Some (mark.Type mark_type.Bar)

abbrev pub bars_view : Bool → FirstForm → View
bars_view y_first form = view_of (head_of form) (unit_of bar (channels_of y_first form))

-- The specification of a form, whose channel y stands first or last. Its one source has the name of the values; how they are written there doesn't matter
-- to its chart, which is one over a state.
abbrev pub form_spec : Bool → Option Json → FirstForm → VlSpec
form_spec y_first values form = record {
  schema = None;
  padding = None;
  autosize = None;
  config = None;
  sources = record { name = form.name; values = values; url = None; format = None } ∷ [];
  params = [];
  view = bars_view y_first form;
}

-- The rule at work.

codes_of_channels : (form : FirstForm) → (map (λ (c : ChannelOf). c.channel) (channels_of false form) ≡ X ∷ Y ∷ [])
    × (map (λ (c : ChannelOf). c.channel) (channels_of true form) ≡ Y ∷ X ∷ [])
codes_of_channels form = (refl, refl)
