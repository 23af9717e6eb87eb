-- The members of objects: channels.
use Rattle.std.specs.Prelude.{None, List, [], ◌∷◌, codes}
use Rattle.spec_schema.specs.declared.layout.Layout.{Layout}
use Rattle.spec_schema.specs.Tables.{may}
use Rattle.vega_schema.specs.declared.codes.TheConstants.{CELL, CHANNEL, CHANNELS, EXPRESSION, FREE, LABEL_FORMAT, NUMBER, TEXT, VALUE}
use Rattle.vega_schema.specs.declared.codes.TheConstants.{WORDS_CHANNEL, WORDS_VALUE}

-- an encode set
unfoldable pub channel_members : Layout
channel_members = record {
  object = CHANNELS;
  when = [];
  rules =
      may (codes "x") CHANNEL ∷ may (codes "x2") CHANNEL ∷ may (codes "xc") CHANNEL ∷
      may (codes "width") CHANNEL ∷ may (codes "y") CHANNEL ∷ may (codes "y2") CHANNEL ∷
      may (codes "yc") CHANNEL ∷ may (codes "height") CHANNEL ∷ may (codes "fill") CHANNEL ∷
      may (codes "stroke") CHANNEL ∷ may (codes "strokeWidth") CHANNEL ∷ may (codes "opacity") CHANNEL ∷
      may (codes "size") CHANNEL ∷ may (codes "shape") CHANNEL ∷ may (codes "text") WORDS_CHANNEL ∷
      may (codes "align") CHANNEL ∷ may (codes "baseline") CHANNEL ∷ may (codes "dx") CHANNEL ∷
      may (codes "dy") CHANNEL ∷ may (codes "fontSize") CHANNEL ∷ may (codes "tooltip") FREE ∷
      [];
  others = None;
}

-- a value of a channel
unfoldable pub value : Layout
value = record {
  object = VALUE;
  when = [];
  rules =
      may (codes "value") CELL ∷ may (codes "field") TEXT ∷ may (codes "scale") TEXT ∷ may (codes "band") NUMBER ∷
      may (codes "offset") NUMBER ∷ may (codes "signal") EXPRESSION ∷ may (codes "test") EXPRESSION ∷
      [];
  others = None;
}

-- a value of the channel `text`
unfoldable pub words_value : Layout
words_value = record {
  object = WORDS_VALUE;
  when = [];
  rules =
      may (codes "value") CELL ∷ may (codes "field") TEXT ∷ may (codes "scale") TEXT ∷ may (codes "band") NUMBER ∷
      may (codes "offset") NUMBER ∷ may (codes "signal") EXPRESSION ∷ may (codes "test") EXPRESSION ∷
      may (codes "format") LABEL_FORMAT ∷
      [];
  others = None;
}

-- all of these
abbrev pub all_channels : List Layout
all_channels = channel_members ∷ value ∷ words_value ∷ []
