-- The members of objects: channels.
use Rattle.std.specs.Prelude.{ℕ, None, List, [], ◌∷◌, codes}
use Rattle.spec_schema.specs.declared.layout.Layout.{Layout}
use Rattle.spec_schema.specs.declared.layout.Rule.{Rule}
use Rattle.spec_schema.specs.declared.layout.Test.TheVariants.{Leads}
use Rattle.spec_schema.specs.Tables.{may}
use Rattle.vl_schema.specs.declared.codes.TheConstants.{BIN, CHANNEL, CHANNEL_KINDS, COUNT, DETAIL, ENCODING, FACET_CHANNEL, FIELD_TYPE, FREE}
use Rattle.vl_schema.specs.declared.codes.TheConstants.{HEADER, LABEL_FORMAT, LAYER_ENCODING, LEGEND, OPERATION, SCALAR, SCALE, SORT, SPACE}
use Rattle.vl_schema.specs.declared.codes.TheConstants.{STACK, TEXT, TIME_UNIT, TITLE, X_CHANNEL, Y_CHANNEL}

-- the members of a definition over a field, with those of its axis and its conditions
unfoldable pub field_members : ℕ → ℕ → List Rule
field_members axes tests =
    may (codes "field") TEXT ∷ may (codes "type") FIELD_TYPE ∷ may (codes "aggregate") OPERATION ∷
    may (codes "bin") BIN ∷ may (codes "timeUnit") TIME_UNIT ∷ may (codes "title") TITLE ∷ may (codes "sort") SORT ∷
    may (codes "scale") SCALE ∷ may (codes "stack") STACK ∷ may (codes "axis") axes ∷ may (codes "legend") LEGEND ∷
    may (codes "header") HEADER ∷ may (codes "format") LABEL_FORMAT ∷ may (codes "condition") tests ∷
    may (codes "columns") COUNT ∷ may (codes "spacing") SPACE ∷
    []

-- a channel with a value that is written
unfoldable pub written_channel : ℕ → ℕ → Layout
written_channel object tests = record {
  object = object;
  when = Leads CHANNEL_KINDS (codes "value") ∷ [];
  rules =
      may (codes "value") SCALAR ∷ may (codes "condition") tests ∷
      [];
  others = None;
}

-- a channel with a cell that is written
unfoldable pub datum_channel : ℕ → ℕ → ℕ → Layout
datum_channel object axes tests = record {
  object = object;
  when = Leads CHANNEL_KINDS (codes "datum") ∷ [];
  rules =
      may (codes "datum") SCALAR ∷ may (codes "type") FIELD_TYPE ∷ may (codes "scale") SCALE ∷
      may (codes "axis") axes ∷ may (codes "legend") LEGEND ∷ may (codes "title") TITLE ∷
      may (codes "condition") tests ∷
      [];
  others = None;
}

-- a channel over a field
unfoldable pub field_channel : ℕ → ℕ → ℕ → Layout
field_channel object axes tests = record {
  object = object;
  when = [];
  rules =
      field_members axes tests;
  others = None;
}

-- the channels of a unit
unfoldable pub encoding : Layout
encoding = record {
  object = ENCODING;
  when = [];
  rules =
      may (codes "x") X_CHANNEL ∷ may (codes "y") Y_CHANNEL ∷ may (codes "x2") CHANNEL ∷ may (codes "y2") CHANNEL ∷
      may (codes "color") CHANNEL ∷ may (codes "opacity") CHANNEL ∷ may (codes "size") CHANNEL ∷
      may (codes "shape") CHANNEL ∷ may (codes "detail") DETAIL ∷ may (codes "text") CHANNEL ∷
      may (codes "row") FACET_CHANNEL ∷ may (codes "column") FACET_CHANNEL ∷ may (codes "facet") FACET_CHANNEL ∷
      may (codes "tooltip") FREE ∷
      [];
  others = None;
}

-- the channels of a layer, or of a unit in one
unfoldable pub layer_encoding : Layout
layer_encoding = record {
  object = LAYER_ENCODING;
  when = [];
  rules =
      may (codes "x") X_CHANNEL ∷ may (codes "y") Y_CHANNEL ∷ may (codes "x2") CHANNEL ∷ may (codes "y2") CHANNEL ∷
      may (codes "color") CHANNEL ∷ may (codes "opacity") CHANNEL ∷ may (codes "size") CHANNEL ∷
      may (codes "shape") CHANNEL ∷ may (codes "detail") DETAIL ∷ may (codes "text") CHANNEL ∷
      may (codes "tooltip") FREE ∷
      [];
  others = None;
}

-- the definitions of a channel
unfoldable pub channels_of : ℕ → ℕ → ℕ → List Layout
channels_of object axes tests =
    written_channel object tests ∷ datum_channel object axes tests ∷ field_channel object axes tests ∷
    []

-- all of these
unfoldable pub all_channels : List Layout
all_channels =
    encoding ∷ layer_encoding ∷
    []
