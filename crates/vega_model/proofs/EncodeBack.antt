-- Encode sets are read back.
use Rattle.std.proofs.Common.{◌≡◌, ℕ, List, map, refl, ap, ◌∙◌}
use Rattle.std.specs.Prelude.{Some, codes}
use Rattle.json_exact.specs.Path.{member_value}
use Rattle.json_exact.specs.declared.json.Json.{out-Json}
use Rattle.json_exact.specs.declared.json.Member.{Member}
use Rattle.vega_spec.specs.declared.encode.Channel.{Channel}
use Rattle.vega_spec.specs.declared.encode.ChannelValue.{ChannelValue}
use Rattle.vega_spec.specs.declared.encode.Channels.{Channels}
use Rattle.vega_spec.specs.declared.encode.Encode.{Encode}
use Rattle.vega_building.specs.Channels.{channel_value_of, channel_in, channels_of, encode_of}
use Rattle.vega_building.specs.Parts.{members_of}
use Rattle.vega_writing.specs.Encode.{channel_tree, channel_value_tree, encode_slots, channels_slots, channel_value_slots}
use Rattle.vega_writing.specs.Slots.{present}
use Rattle.vega_model.proofs.Back.{opened_list, opened_object, members_back, map_back, may_found, may_text, may_number, may_object}
use Rattle.vega_model.proofs.Back.{each_of, some_of}
use Rattle.vega_model.proofs.Found.{at_name, found}
use Rattle.vega_model.proofs.Leaves.{may_cell, may_expression}
use Rattle.vega_model.specs.RoundTrip.{asked_readings}
use Rattle.vega_model.specs.Codes.{OfChannelValue, OfChannel, OfChannels, OfEncode}
use Rattle.vega_spec.specs.declared.encode.Channel.TheVariants as channel

-- a value of a channel is read back
pub channel_value_back : (c : ChannelValue) → OfChannelValue asked_readings c → channel_value_of (present (channel_value_slots c)) ≡ c
unfolding channel_value_slots
channel_value_back c r =
    let ms : List Member = present (channel_value_slots c) in
    let at : (name : List ℕ) → member_value ms name ≡ at_name (channel_value_slots c) name =
    λ name. found (channel_value_slots c) name refl in
    λ j. record {
      value = may_cell ms (codes "value") c.value (at (codes "value")) j;
      field = may_text ms (codes "field") c.field (at (codes "field")) j;
      scale = may_text ms (codes "scale") c.scale (at (codes "scale")) j;
      band = may_number ms (codes "band") c.band (at (codes "band")) j;
      offset = may_number ms (codes "offset") c.offset (at (codes "offset")) j;
      signal = may_expression ms (codes "signal") c.signal (at (codes "signal")) r.0 j;
      test = may_expression ms (codes "test") c.test (at (codes "test")) r.1 j;
      format = may_text ms (codes "format") c.format (at (codes "format")) j;
    }

-- what is read of a channel is the channel
pub channel_reads : (x : Channel) → OfChannel asked_readings x → channel_in (out-Json (channel_tree x)) ≡ Some x
unfolding channel_tree
channel_reads (channel.One value) r = ap channel_in (opened_object (channel_value_slots value))
    ∙ ap (λ v. Some (channel.One v)) (channel_value_back value r)
channel_reads (channel.Several values) r =
    ap channel_in (opened_list (map channel_value_tree values))
    ∙ ap (λ vs. Some (channel.Several vs))
    (map_back (λ tree. channel_value_of (members_of tree)) channel_value_tree values (each_of item values r))
  where
    item : (x : ChannelValue) → OfChannelValue asked_readings x → channel_value_of (members_of (channel_value_tree x)) ≡ x
    item x r = ap channel_value_of (members_back (channel_value_slots x)) ∙ channel_value_back x r

-- an encode set is read back
pub channels_back : (c : Channels) → OfChannels asked_readings c → channels_of (present (channels_slots c)) ≡ c
unfolding channels_slots
channels_back c r =
    let ms : List Member = present (channels_slots c) in
    let at : (name : List ℕ) → member_value ms name ≡ at_name (channels_slots c) name = λ name. found (channels_slots c) name refl in
    λ j. record {
      x = may_found ms (codes "x") channel_in channel_tree c.x (at (codes "x")) (some_of channel_reads c.x r.0) j;
      x2 = may_found ms (codes "x2") channel_in channel_tree c.x2 (at (codes "x2")) (some_of channel_reads c.x2 r.1.0) j;
      xc = may_found ms (codes "xc") channel_in channel_tree c.xc (at (codes "xc")) (some_of channel_reads c.xc r.1.1.0) j;
      width = may_found ms (codes "width") channel_in channel_tree c.width (at (codes "width"))
          (some_of channel_reads c.width r.1.1.1.0) j;
      y = may_found ms (codes "y") channel_in channel_tree c.y (at (codes "y")) (some_of channel_reads c.y r.1.1.1.1.0) j;
      y2 = may_found ms (codes "y2") channel_in channel_tree c.y2 (at (codes "y2")) (some_of channel_reads c.y2 r.1.1.1.1.1.0) j;
      yc = may_found ms (codes "yc") channel_in channel_tree c.yc (at (codes "yc")) (some_of channel_reads c.yc r.1.1.1.1.1.1.0) j;
      height = may_found ms (codes "height") channel_in channel_tree c.height (at (codes "height"))
          (some_of channel_reads c.height r.1.1.1.1.1.1.1.0) j;
      fill = may_found ms (codes "fill") channel_in channel_tree c.fill (at (codes "fill"))
          (some_of channel_reads c.fill r.1.1.1.1.1.1.1.1.0) j;
      stroke = may_found ms (codes "stroke") channel_in channel_tree c.stroke (at (codes "stroke"))
          (some_of channel_reads c.stroke r.1.1.1.1.1.1.1.1.1.0) j;
      stroke_width = may_found ms (codes "strokeWidth") channel_in channel_tree c.stroke_width (at (codes "strokeWidth"))
          (some_of channel_reads c.stroke_width r.1.1.1.1.1.1.1.1.1.1.0) j;
      opacity = may_found ms (codes "opacity") channel_in channel_tree c.opacity (at (codes "opacity"))
          (some_of channel_reads c.opacity r.1.1.1.1.1.1.1.1.1.1.1.0) j;
      size = may_found ms (codes "size") channel_in channel_tree c.size (at (codes "size"))
          (some_of channel_reads c.size r.1.1.1.1.1.1.1.1.1.1.1.1.0) j;
      shape = may_found ms (codes "shape") channel_in channel_tree c.shape (at (codes "shape"))
          (some_of channel_reads c.shape r.1.1.1.1.1.1.1.1.1.1.1.1.1.0) j;
      text = may_found ms (codes "text") channel_in channel_tree c.text (at (codes "text"))
          (some_of channel_reads c.text r.1.1.1.1.1.1.1.1.1.1.1.1.1.1.0) j;
      align = may_found ms (codes "align") channel_in channel_tree c.align (at (codes "align"))
          (some_of channel_reads c.align r.1.1.1.1.1.1.1.1.1.1.1.1.1.1.1.0) j;
      baseline = may_found ms (codes "baseline") channel_in channel_tree c.baseline (at (codes "baseline"))
          (some_of channel_reads c.baseline r.1.1.1.1.1.1.1.1.1.1.1.1.1.1.1.1.0) j;
      dx = may_found ms (codes "dx") channel_in channel_tree c.dx (at (codes "dx"))
          (some_of channel_reads c.dx r.1.1.1.1.1.1.1.1.1.1.1.1.1.1.1.1.1.0) j;
      dy = may_found ms (codes "dy") channel_in channel_tree c.dy (at (codes "dy"))
          (some_of channel_reads c.dy r.1.1.1.1.1.1.1.1.1.1.1.1.1.1.1.1.1.1.0) j;
      font_size = may_found ms (codes "fontSize") channel_in channel_tree c.font_size (at (codes "fontSize"))
          (some_of channel_reads c.font_size r.1.1.1.1.1.1.1.1.1.1.1.1.1.1.1.1.1.1.1.0) j;
    }

-- the encode sets of a mark is read back
pub encode_back : (e : Encode) → OfEncode asked_readings e → encode_of (present (encode_slots e)) ≡ e
unfolding encode_slots
encode_back e r =
    let ms : List Member = present (encode_slots e) in
    let at : (name : List ℕ) → member_value ms name ≡ at_name (encode_slots e) name = λ name. found (encode_slots e) name refl in
    λ j. record {
      enter = may_object ms (codes "enter") channels_of channels_slots e.enter (at (codes "enter")) (some_of channels_back e.enter r.0) j;
      update = may_object ms (codes "update") channels_of channels_slots e.update (at (codes "update"))
          (some_of channels_back e.update r.1) j;
    }
