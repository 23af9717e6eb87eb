-- The members of objects: sources.
use Rattle.std.specs.Prelude.{Some, None, List, [], ◌∷◌, codes}
use Rattle.spec_schema.specs.declared.layout.Layout.{Layout}
use Rattle.spec_schema.specs.declared.layout.Test.TheVariants.{Has}
use Rattle.spec_schema.specs.Tables.{must, may}
use Rattle.vega_schema.specs.declared.codes.TheConstants.{DATA, EXTENT_SIGNAL, FORMAT, FORMAT_TYPE, FREE, ORDERS, PARSE, PARSE_KIND, SORT}
use Rattle.vega_schema.specs.declared.codes.TheConstants.{TEXT, TEXT_OR_TEXTS, TRANSFORMS}

-- a data set
unfoldable pub data_set : Layout
data_set = record {
  object = DATA;
  when = [];
  rules =
      must (codes "name") TEXT ∷ may (codes "values") FREE ∷ may (codes "url") TEXT ∷
      may (codes "format") FORMAT ∷ may (codes "source") TEXT ∷ may (codes "transform") TRANSFORMS ∷
      [];
  others = None;
}

-- the format of a data file
unfoldable pub data_format : Layout
data_format = record {
  object = FORMAT;
  when = [];
  rules =
      may (codes "type") FORMAT_TYPE ∷ may (codes "parse") PARSE ∷
      [];
  others = None;
}

-- how the texts of the fields of a data file are read
unfoldable pub parse : Layout
parse = record {
  object = PARSE;
  when = [];
  rules =
      [];
  others = Some PARSE_KIND;
}

-- an order by fields
unfoldable pub sort : Layout
sort = record {
  object = SORT;
  when = Has (codes "field") ∷ [];
  rules =
      may (codes "field") TEXT_OR_TEXTS ∷ may (codes "order") ORDERS ∷
      [];
  others = None;
}

-- the signal of an extent, by its name
unfoldable pub extent_signal : Layout
extent_signal = record {
  object = EXTENT_SIGNAL;
  when = Has (codes "signal") ∷ [];
  rules =
      may (codes "signal") TEXT ∷
      [];
  others = None;
}

-- all of these
abbrev pub all_sources : List Layout
all_sources = data_set ∷ data_format ∷ parse ∷ sort ∷ extent_signal ∷ []
