-- Encode sets.
use Rattle.std.specs.Prelude.{ℕ, Option, Some, None, List, map, codes}
use Rattle.json_exact.specs.declared.json.Json.TheOpen as level
use Rattle.json_exact.specs.declared.json.Member.{Member}
use Rattle.vega_spec.specs.declared.encode.ChannelValue.{ChannelValue}
use Rattle.vega_spec.specs.declared.encode.Channel.{Channel}
use Rattle.vega_spec.specs.declared.encode.Channel.TheVariants as channel
use Rattle.vega_spec.specs.declared.encode.Channels.{Channels}
use Rattle.vega_spec.specs.declared.encode.Encode.{Encode}
use Rattle.tree_readers.specs.Parts.{Opened, found_at, object_at, members_of, number_at, text_at, cell_at}
use Rattle.vega_building.specs.Parts.{expression_at}

-- a value of a channel
abbrev pub channel_value_of : List Member → ChannelValue
channel_value_of members = record {
  value = cell_at members (codes "value");
  field = text_at members (codes "field");
  scale = text_at members (codes "scale");
  band = number_at members (codes "band");
  offset = number_at members (codes "offset");
  signal = expression_at members (codes "signal");
  test = expression_at members (codes "test");
  format = text_at members (codes "format");
}

-- a value, or a list of values
abbrev pub channel_in : Opened → Option Channel
channel_in (level.Object members) = Some (channel.One (channel_value_of members))
channel_in (level.List items) = Some (channel.Several (map (λ tree. channel_value_of (members_of tree)) items))
channel_in other = None

-- a channel under a name
abbrev pub channel_at : List Member → List ℕ → Option Channel
channel_at = found_at channel_in

-- what each channel shows
abbrev pub channels_of : List Member → Channels
channels_of members = record {
  x = channel_at members (codes "x");
  x2 = channel_at members (codes "x2");
  xc = channel_at members (codes "xc");
  width = channel_at members (codes "width");
  y = channel_at members (codes "y");
  y2 = channel_at members (codes "y2");
  yc = channel_at members (codes "yc");
  height = channel_at members (codes "height");
  fill = channel_at members (codes "fill");
  stroke = channel_at members (codes "stroke");
  stroke_width = channel_at members (codes "strokeWidth");
  opacity = channel_at members (codes "opacity");
  size = channel_at members (codes "size");
  shape = channel_at members (codes "shape");
  text = channel_at members (codes "text");
  align = channel_at members (codes "align");
  baseline = channel_at members (codes "baseline");
  dx = channel_at members (codes "dx");
  dy = channel_at members (codes "dy");
  font_size = channel_at members (codes "fontSize");
}

-- the encode sets of a mark
abbrev pub encode_of : List Member → Encode
encode_of members = record {
  enter = object_at channels_of members (codes "enter");
  update = object_at channels_of members (codes "update");
}
