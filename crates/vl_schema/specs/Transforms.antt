-- The members of objects: transforms.
use Rattle.std.specs.Prelude.{None, List, [], ◌∷◌, ◌++◌, codes}
use Rattle.spec_schema.specs.declared.layout.Layout.{Layout}
use Rattle.spec_schema.specs.declared.layout.Test.TheVariants.{Leads, Beyond}
use Rattle.spec_schema.specs.Tables.{must, may}
use Rattle.vl_schema.specs.declared.codes.TheConstants.{BIN_STEP, EXPRESSION, FILTER, FLAG, FRAME, LOOKUP_FROM, OFFSET, OPERATIONS, SCALAR}
use Rattle.vl_schema.specs.declared.codes.TheConstants.{SORT_FIELDS, TEXT, TEXTS, TEXT_OR_TEXTS, TEXT_OR_TWO, TIME_UNIT, TRANSFORM}
use Rattle.vl_schema.specs.declared.codes.TheConstants.{TRANSFORM_KINDS, TRANSFORM_OTHERS, TWO_TEXTS, WINDOW_OPERATIONS}

-- a filter
unfoldable pub filter : Layout
filter = record {
  object = TRANSFORM;
  when = Leads TRANSFORM_KINDS (codes "filter") ∷ [];
  rules =
      may (codes "filter") FILTER ∷
      [];
  others = None;
}

-- a field that an expression computes
unfoldable pub calculate : Layout
calculate = record {
  object = TRANSFORM;
  when = Leads TRANSFORM_KINDS (codes "calculate") ∷ [];
  rules =
      may (codes "calculate") EXPRESSION ∷ must (codes "as") TEXT ∷
      [];
  others = None;
}

-- the bins of a field
unfoldable pub bin : Layout
bin = record {
  object = TRANSFORM;
  when = Leads TRANSFORM_KINDS (codes "bin") ∷ [];
  rules =
      may (codes "bin") BIN_STEP ∷ must (codes "field") TEXT ∷ must (codes "as") TEXT_OR_TWO ∷
      [];
  others = None;
}

-- a time unit of a field
unfoldable pub time_unit : Layout
time_unit = record {
  object = TRANSFORM;
  when = Leads TRANSFORM_KINDS (codes "timeUnit") ∷ [];
  rules =
      may (codes "timeUnit") TIME_UNIT ∷ must (codes "field") TEXT ∷ must (codes "as") TEXT ∷
      [];
  others = None;
}

-- aggregates of groups
unfoldable pub aggregate : Layout
aggregate = record {
  object = TRANSFORM;
  when = Leads TRANSFORM_KINDS (codes "aggregate") ∷ [];
  rules =
      may (codes "aggregate") OPERATIONS ∷ may (codes "groupby") TEXTS ∷
      [];
  others = None;
}

-- aggregates of groups beside each row
unfoldable pub join_aggregate : Layout
join_aggregate = record {
  object = TRANSFORM;
  when = Leads TRANSFORM_KINDS (codes "joinaggregate") ∷ [];
  rules =
      may (codes "joinaggregate") OPERATIONS ∷ may (codes "groupby") TEXTS ∷
      [];
  others = None;
}

-- a stack
unfoldable pub stack : Layout
stack = record {
  object = TRANSFORM;
  when = Leads TRANSFORM_KINDS (codes "stack") ∷ [];
  rules =
      may (codes "stack") TEXT ∷ may (codes "groupby") TEXTS ∷ may (codes "sort") SORT_FIELDS ∷
      may (codes "offset") OFFSET ∷ must (codes "as") TEXT_OR_TWO ∷
      [];
  others = None;
}

-- operations over windows
unfoldable pub window : Layout
window = record {
  object = TRANSFORM;
  when = Leads TRANSFORM_KINDS (codes "window") ∷ [];
  rules =
      may (codes "window") WINDOW_OPERATIONS ∷ may (codes "groupby") TEXTS ∷ may (codes "sort") SORT_FIELDS ∷
      may (codes "frame") FRAME ∷ may (codes "ignorePeers") FLAG ∷
      [];
  others = None;
}

-- a lookup in other rows
unfoldable pub lookup : Layout
lookup = record {
  object = TRANSFORM;
  when = Leads TRANSFORM_KINDS (codes "lookup") ∷ [];
  rules =
      may (codes "lookup") TEXT ∷ must (codes "from") LOOKUP_FROM ∷ may (codes "as") TEXT_OR_TEXTS ∷
      may (codes "default") SCALAR ∷
      [];
  others = None;
}

-- a fold of fields
unfoldable pub fold : Layout
fold = record {
  object = TRANSFORM;
  when = Leads TRANSFORM_KINDS (codes "fold") ∷ [];
  rules =
      may (codes "fold") TEXTS ∷ may (codes "as") TWO_TEXTS ∷
      [];
  others = None;
}

-- a transform of no kind with a member that no transform has
unfoldable pub no_transform : Layout
no_transform = record {
  object = TRANSFORM;
  when = Beyond TRANSFORM_OTHERS ∷ [];
  rules =
      [];
  others = None;
}

-- some of these
unfoldable pub plain_transforms : List Layout
plain_transforms =
    filter ∷ calculate ∷ bin ∷ time_unit ∷ aggregate ∷ join_aggregate ∷
    []

-- all of these
unfoldable pub all_transforms : List Layout
all_transforms = plain_transforms ++
    (stack ∷ window ∷ lookup ∷ fold ∷ no_transform ∷
    [])
