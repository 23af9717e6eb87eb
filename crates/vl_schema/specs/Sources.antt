-- The members of objects: where rows come from.
use Rattle.std.specs.Prelude.{Some, None, List, [], ◌∷◌, codes}
use Rattle.spec_schema.specs.declared.layout.Layout.{Layout}
use Rattle.spec_schema.specs.declared.layout.Test.TheVariants.{Has, Lacks, Any}
use Rattle.spec_schema.specs.Tables.{may}
use Rattle.vl_schema.specs.declared.codes.TheConstants.{DATA, DATASETS, DATA_NAMES, FORMAT, FORMAT_TYPE, FREE, PARSE, PARSE_KIND, TEXT, URL}

-- rows by a name, or written
unfoldable pub source_of_values : Layout
source_of_values = record {
  object = DATA;
  when = Any DATA_NAMES ∷ Lacks (codes "url") ∷ [];
  rules =
      may (codes "name") TEXT ∷ may (codes "values") FREE ∷ may (codes "format") FORMAT ∷
      [];
  others = None;
}

-- the rows of a file
unfoldable pub source_of_file : Layout
source_of_file = record {
  object = DATA;
  when = Has (codes "url") ∷ Lacks (codes "values") ∷ [];
  rules =
      may (codes "name") TEXT ∷ may (codes "url") URL ∷ may (codes "format") FORMAT ∷
      [];
  others = None;
}

-- the format of a data file
unfoldable pub format : Layout
format = record {
  object = FORMAT;
  when = [];
  rules =
      may (codes "type") FORMAT_TYPE ∷ may (codes "parse") PARSE ∷
      [];
  others = None;
}

-- how the texts of the fields of a data file are read
unfoldable pub parse : Layout
parse = record {
  object = PARSE;
  when = [];
  rules =
      [];
  others = Some PARSE_KIND;
}

-- rows by names
unfoldable pub datasets : Layout
datasets = record {
  object = DATASETS;
  when = [];
  rules =
      [];
  others = Some FREE;
}

-- all of these
unfoldable pub all_sources : List Layout
all_sources =
    source_of_values ∷ source_of_file ∷ format ∷ parse ∷ datasets ∷
    []
