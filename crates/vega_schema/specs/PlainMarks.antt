-- The members of objects: plain_marks.
use Rattle.std.specs.Prelude.{None, List, [], ◌∷◌, codes}
use Rattle.spec_schema.specs.declared.layout.Layout.{Layout}
use Rattle.spec_schema.specs.declared.layout.Test.TheVariants.{Says}
use Rattle.spec_schema.specs.Tables.{must, may}
use Rattle.vega_schema.specs.declared.codes.TheConstants.{ENCODE, MARK, MARK_FROM, SORT, TEXT}

-- a mark of the type `rect`
unfoldable pub rect_mark : Layout
rect_mark = record {
  object = MARK;
  when = Says (codes "type") (codes "rect") ∷ [];
  rules =
      must (codes "type") TEXT ∷ may (codes "name") TEXT ∷ must (codes "from") MARK_FROM ∷
      may (codes "encode") ENCODE ∷ may (codes "sort") SORT ∷
      [];
  others = None;
}

-- a mark of the type `symbol`
unfoldable pub symbol_mark : Layout
symbol_mark = record {
  object = MARK;
  when = Says (codes "type") (codes "symbol") ∷ [];
  rules =
      must (codes "type") TEXT ∷ may (codes "name") TEXT ∷ must (codes "from") MARK_FROM ∷
      may (codes "encode") ENCODE ∷ may (codes "sort") SORT ∷
      [];
  others = None;
}

-- a mark of the type `line`
unfoldable pub line_mark : Layout
line_mark = record {
  object = MARK;
  when = Says (codes "type") (codes "line") ∷ [];
  rules =
      must (codes "type") TEXT ∷ may (codes "name") TEXT ∷ must (codes "from") MARK_FROM ∷
      may (codes "encode") ENCODE ∷ may (codes "sort") SORT ∷
      [];
  others = None;
}

-- a mark of the type `area`
unfoldable pub area_mark : Layout
area_mark = record {
  object = MARK;
  when = Says (codes "type") (codes "area") ∷ [];
  rules =
      must (codes "type") TEXT ∷ may (codes "name") TEXT ∷ must (codes "from") MARK_FROM ∷
      may (codes "encode") ENCODE ∷ may (codes "sort") SORT ∷
      [];
  others = None;
}

-- a mark of the type `rule`
unfoldable pub rule_mark : Layout
rule_mark = record {
  object = MARK;
  when = Says (codes "type") (codes "rule") ∷ [];
  rules =
      must (codes "type") TEXT ∷ may (codes "name") TEXT ∷ must (codes "from") MARK_FROM ∷
      may (codes "encode") ENCODE ∷ may (codes "sort") SORT ∷
      [];
  others = None;
}

-- a mark of the type `text`
unfoldable pub text_mark : Layout
text_mark = record {
  object = MARK;
  when = Says (codes "type") (codes "text") ∷ [];
  rules =
      must (codes "type") TEXT ∷ may (codes "name") TEXT ∷ must (codes "from") MARK_FROM ∷
      may (codes "encode") ENCODE ∷ may (codes "sort") SORT ∷
      [];
  others = None;
}

-- all of these
abbrev pub all_plain_marks : List Layout
all_plain_marks = rect_mark ∷ symbol_mark ∷ line_mark ∷ area_mark ∷ rule_mark ∷ text_mark ∷ []
