-- The members of objects: marks.
use Rattle.std.specs.Prelude.{None, List, [], ◌∷◌, codes}
use Rattle.spec_schema.specs.declared.layout.Layout.{Layout}
use Rattle.spec_schema.specs.declared.layout.Test.TheVariants.{Has, Lacks}
use Rattle.spec_schema.specs.Tables.{must, may}
use Rattle.vega_schema.specs.declared.codes.TheConstants.{CHANNELS, CROSS, ENCODE, FACET, FLAG, GROUP_FROM, HEADERS, MARK, MARK_FROM}
use Rattle.vega_schema.specs.declared.codes.TheConstants.{NOTHING, SORT, TEXT, TEXTS, TEXT_OR_TEXTS}

-- where the rows of a mark come from
unfoldable pub mark_from : Layout
mark_from = record {
  object = MARK_FROM;
  when = Has (codes "data") ∷ Lacks (codes "facet") ∷ [];
  rules =
      may (codes "data") TEXT ∷
      [];
  others = None;
}

-- where the copies of a group come from
unfoldable pub group_from : Layout
group_from = record {
  object = GROUP_FROM;
  when = Has (codes "facet") ∷ Lacks (codes "data") ∷ [];
  rules =
      may (codes "facet") FACET ∷
      [];
  others = None;
}

-- how rows are parted into copies of a group
unfoldable pub facet : Layout
facet = record {
  object = FACET;
  when = [];
  rules =
      must (codes "name") TEXT_OR_TEXTS ∷ must (codes "data") TEXT_OR_TEXTS ∷ must (codes "groupby") TEXTS ∷
      may (codes "aggregate") CROSS ∷ may (codes "headers") HEADERS ∷
      [];
  others = None;
}

-- whether a facet has each pair of cells
unfoldable pub cross : Layout
cross = record {
  object = CROSS;
  when = [];
  rules =
      may (codes "cross") FLAG ∷
      [];
  others = None;
}

-- the encode sets of a mark
unfoldable pub encode : Layout
encode = record {
  object = ENCODE;
  when = [];
  rules =
      may (codes "enter") CHANNELS ∷ may (codes "update") CHANNELS ∷
      [];
  others = None;
}

-- a mark of no known type: its type is missing or wrong, and it has the members of a mark other than a group
unfoldable pub no_mark : Layout
no_mark = record {
  object = MARK;
  when = [];
  rules =
      must (codes "type") NOTHING ∷ may (codes "name") TEXT ∷ must (codes "from") MARK_FROM ∷
      may (codes "encode") ENCODE ∷ may (codes "sort") SORT ∷
      [];
  others = None;
}

-- all of these
abbrev pub all_marks : List Layout
all_marks = mark_from ∷ group_from ∷ facet ∷ cross ∷ encode ∷ no_mark ∷ []
