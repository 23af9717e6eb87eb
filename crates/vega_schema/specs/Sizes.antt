-- The members of objects: what gives plots their sizes.
use Rattle.std.specs.Prelude.{None, List, [], ◌∷◌, codes}
use Rattle.spec_schema.specs.declared.layout.Layout.{Layout}
use Rattle.spec_schema.specs.declared.layout.Test.TheVariants.{Has}
use Rattle.spec_schema.specs.Tables.{may}
use Rattle.vega_schema.specs.declared.codes.TheConstants.{CELL, CHANNEL, FREE, GROUP_CHANNELS, GROUP_ENCODE, NUMBER, SIZE_CHANNEL}
use Rattle.vega_schema.specs.declared.codes.TheConstants.{SIZE_EXPRESSION, SIZE_SIGNAL, SIZE_VALUE, TEXT, WORDS_CHANNEL}

-- the value of an expression that gives the size of a plot
unfoldable pub size_signal : Layout
size_signal = record {
  object = SIZE_SIGNAL;
  when = Has (codes "signal") ∷ [];
  rules =
      may (codes "signal") SIZE_EXPRESSION ∷
      [];
  others = None;
}

-- the encode sets of a group
unfoldable pub group_encode : Layout
group_encode = record {
  object = GROUP_ENCODE;
  when = [];
  rules =
      may (codes "enter") GROUP_CHANNELS ∷ may (codes "update") GROUP_CHANNELS ∷
      [];
  others = None;
}

-- an encode set of a group
unfoldable pub group_channels : Layout
group_channels = record {
  object = GROUP_CHANNELS;
  when = [];
  rules =
      may (codes "x") CHANNEL ∷ may (codes "x2") CHANNEL ∷ may (codes "xc") CHANNEL ∷
      may (codes "width") SIZE_CHANNEL ∷ may (codes "y") CHANNEL ∷ may (codes "y2") CHANNEL ∷
      may (codes "yc") CHANNEL ∷ may (codes "height") SIZE_CHANNEL ∷ may (codes "fill") CHANNEL ∷
      may (codes "stroke") CHANNEL ∷ may (codes "strokeWidth") CHANNEL ∷ may (codes "opacity") CHANNEL ∷
      may (codes "size") CHANNEL ∷ may (codes "shape") CHANNEL ∷ may (codes "text") WORDS_CHANNEL ∷
      may (codes "align") CHANNEL ∷ may (codes "baseline") CHANNEL ∷ may (codes "dx") CHANNEL ∷
      may (codes "dy") CHANNEL ∷ may (codes "fontSize") CHANNEL ∷ may (codes "tooltip") FREE ∷
      [];
  others = None;
}

-- a value of a channel that gives the size of a plot
unfoldable pub size_value : Layout
size_value = record {
  object = SIZE_VALUE;
  when = [];
  rules =
      may (codes "value") CELL ∷ may (codes "field") TEXT ∷ may (codes "scale") TEXT ∷ may (codes "band") NUMBER ∷
      may (codes "offset") NUMBER ∷ may (codes "signal") SIZE_EXPRESSION ∷ may (codes "test") SIZE_EXPRESSION ∷
      [];
  others = None;
}

-- all of these
abbrev pub all_sizes : List Layout
all_sizes = size_signal ∷ group_encode ∷ group_channels ∷ size_value ∷ []
