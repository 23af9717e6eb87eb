-- The members of objects: transforms.
use Rattle.std.specs.Prelude.{None, List, [], ◌∷◌, codes}
use Rattle.spec_schema.specs.declared.layout.Layout.{Layout}
use Rattle.spec_schema.specs.declared.layout.Test.TheVariants.{Says}
use Rattle.spec_schema.specs.Tables.{must, may}
use Rattle.vega_schema.specs.declared.codes.TheConstants.{COUNT, EXPRESSION, EXTENT, OFFSET, SORT, STEP, TEXT, TEXTS, TIME_UNIT, TRANSFORM}
use Rattle.vega_schema.specs.declared.codes.TheConstants.{TWO_TEXTS}

-- a transform of the type `filter`
unfoldable pub filter : Layout
filter = record {
  object = TRANSFORM;
  when = Says (codes "type") (codes "filter") ∷ [];
  rules =
      must (codes "type") TEXT ∷ must (codes "expr") EXPRESSION ∷
      [];
  others = None;
}

-- a transform of the type `formula`
unfoldable pub formula : Layout
formula = record {
  object = TRANSFORM;
  when = Says (codes "type") (codes "formula") ∷ [];
  rules =
      must (codes "type") TEXT ∷ must (codes "expr") EXPRESSION ∷ must (codes "as") TEXT ∷
      [];
  others = None;
}

-- a transform of the type `extent`
unfoldable pub extent : Layout
extent = record {
  object = TRANSFORM;
  when = Says (codes "type") (codes "extent") ∷ [];
  rules =
      must (codes "type") TEXT ∷ must (codes "field") TEXT ∷ must (codes "signal") TEXT ∷
      [];
  others = None;
}

-- a transform of the type `bin`
unfoldable pub bin : Layout
bin = record {
  object = TRANSFORM;
  when = Says (codes "type") (codes "bin") ∷ [];
  rules =
      must (codes "type") TEXT ∷ must (codes "field") TEXT ∷ must (codes "extent") EXTENT ∷
      may (codes "maxbins") COUNT ∷ may (codes "step") STEP ∷ may (codes "as") TWO_TEXTS ∷
      [];
  others = None;
}

-- a transform of the type `timeunit`
unfoldable pub time_unit : Layout
time_unit = record {
  object = TRANSFORM;
  when = Says (codes "type") (codes "timeunit") ∷ [];
  rules =
      must (codes "type") TEXT ∷ must (codes "field") TEXT ∷ must (codes "units") TIME_UNIT ∷
      may (codes "as") TWO_TEXTS ∷
      [];
  others = None;
}

-- a transform of the type `stack`
unfoldable pub stack : Layout
stack = record {
  object = TRANSFORM;
  when = Says (codes "type") (codes "stack") ∷ [];
  rules =
      must (codes "type") TEXT ∷ may (codes "groupby") TEXTS ∷ must (codes "field") TEXT ∷
      may (codes "sort") SORT ∷ may (codes "offset") OFFSET ∷ may (codes "as") TWO_TEXTS ∷
      [];
  others = None;
}

-- a transform of the type `fold`
unfoldable pub fold : Layout
fold = record {
  object = TRANSFORM;
  when = Says (codes "type") (codes "fold") ∷ [];
  rules =
      must (codes "type") TEXT ∷ must (codes "fields") TEXTS ∷ may (codes "as") TWO_TEXTS ∷
      [];
  others = None;
}

-- all of these
abbrev pub all_transforms : List Layout
all_transforms = filter ∷ formula ∷ extent ∷ bin ∷ time_unit ∷ stack ∷ fold ∷ []
