-- The trees of encode sets.
use Rattle.std.specs.Prelude.{List, [], ◌∷◌, option_map, codes}
use Rattle.json_exact.specs.declared.json.Json.{Json}
use Rattle.vega_writing.specs.declared.slots.Slot.{Slot}
use Rattle.vega_spec.specs.declared.encode.Encode.{Encode}
use Rattle.vega_spec.specs.declared.encode.Channels.{Channels}
use Rattle.vega_spec.specs.declared.encode.ChannelValue.{ChannelValue}
use Rattle.vega_spec.specs.declared.encode.Channel.{Channel}
use Rattle.vega_spec.specs.declared.encode.Channel.TheVariants as channel
use Rattle.vega_writing.specs.Slots.{may, object}
use Rattle.vega_writing.specs.Trees.{text_tree, number_tree, expression_tree, cell_tree, list_tree}

-- a value of a channel: its members
unfoldable pub channel_value_slots : ChannelValue → List Slot
channel_value_slots c =
    may (codes "value") (option_map cell_tree c.value) ∷ may (codes "field") (option_map text_tree c.field) ∷
    may (codes "scale") (option_map text_tree c.scale) ∷ may (codes "band") (option_map number_tree c.band) ∷
    may (codes "offset") (option_map number_tree c.offset) ∷ may (codes "signal") (option_map expression_tree c.signal) ∷
    may (codes "test") (option_map expression_tree c.test) ∷ may (codes "format") (option_map text_tree c.format) ∷ []

abbrev pub channel_value_tree : ChannelValue → Json
channel_value_tree c = object (channel_value_slots c)

-- a value, or a list of values with their tests
unfoldable pub channel_tree : Channel → Json
channel_tree (channel.One value) = channel_value_tree value
channel_tree (channel.Several values) = list_tree channel_value_tree values

-- an encode set: its members
unfoldable pub channels_slots : Channels → List Slot
channels_slots c =
    may (codes "x") (option_map channel_tree c.x) ∷ may (codes "x2") (option_map channel_tree c.x2) ∷
    may (codes "xc") (option_map channel_tree c.xc) ∷ may (codes "width") (option_map channel_tree c.width) ∷
    may (codes "y") (option_map channel_tree c.y) ∷ may (codes "y2") (option_map channel_tree c.y2) ∷
    may (codes "yc") (option_map channel_tree c.yc) ∷ may (codes "height") (option_map channel_tree c.height) ∷
    may (codes "fill") (option_map channel_tree c.fill) ∷ may (codes "stroke") (option_map channel_tree c.stroke) ∷
    may (codes "strokeWidth") (option_map channel_tree c.stroke_width) ∷
    may (codes "opacity") (option_map channel_tree c.opacity) ∷ may (codes "size") (option_map channel_tree c.size) ∷
    may (codes "shape") (option_map channel_tree c.shape) ∷ may (codes "text") (option_map channel_tree c.text) ∷
    may (codes "align") (option_map channel_tree c.align) ∷ may (codes "baseline") (option_map channel_tree c.baseline) ∷
    may (codes "dx") (option_map channel_tree c.dx) ∷ may (codes "dy") (option_map channel_tree c.dy) ∷
    may (codes "fontSize") (option_map channel_tree c.font_size) ∷ []

abbrev pub channels_tree : Channels → Json
channels_tree c = object (channels_slots c)

-- the encode sets of a mark: its members
unfoldable pub encode_slots : Encode → List Slot
encode_slots e =
    may (codes "enter") (option_map channels_tree e.enter) ∷ may (codes "update") (option_map channels_tree e.update) ∷ []

abbrev pub encode_tree : Encode → Json
encode_tree e = object (encode_slots e)
