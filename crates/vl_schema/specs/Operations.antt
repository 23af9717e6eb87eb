-- The members of objects: what stands in transforms.
use Rattle.std.specs.Prelude.{None, List, [], ◌∷◌, codes}
use Rattle.spec_schema.specs.declared.layout.Layout.{Layout}
use Rattle.spec_schema.specs.Tables.{must, may}
use Rattle.vl_schema.specs.declared.codes.TheConstants.{BIN, COUNT, DATA, LOOKUP_FROM, OPERATION, OPERATION_OF, ORDER, SORT_FIELD, STEP, TEXT}
use Rattle.vl_schema.specs.declared.codes.TheConstants.{TEXTS, WHOLE, WINDOW_OF, WINDOW_OPERATION}

-- an operation of an aggregate
unfoldable pub operation : Layout
operation = record {
  object = OPERATION_OF;
  when = [];
  rules =
      must (codes "op") OPERATION ∷ may (codes "field") TEXT ∷ must (codes "as") TEXT ∷
      [];
  others = None;
}

-- an operation of a window
unfoldable pub window_operation : Layout
window_operation = record {
  object = WINDOW_OF;
  when = [];
  rules =
      must (codes "op") WINDOW_OPERATION ∷ may (codes "field") TEXT ∷ may (codes "param") WHOLE ∷
      must (codes "as") TEXT ∷
      [];
  others = None;
}

-- a field of an order
unfoldable pub sort_field : Layout
sort_field = record {
  object = SORT_FIELD;
  when = [];
  rules =
      must (codes "field") TEXT ∷ may (codes "order") ORDER ∷
      [];
  others = None;
}

-- where a lookup finds its rows
unfoldable pub lookup_from : Layout
lookup_from = record {
  object = LOOKUP_FROM;
  when = [];
  rules =
      must (codes "data") DATA ∷ must (codes "key") TEXT ∷ must (codes "fields") TEXTS ∷
      [];
  others = None;
}

-- how a field is binned
unfoldable pub bins : Layout
bins = record {
  object = BIN;
  when = [];
  rules =
      may (codes "maxbins") COUNT ∷ may (codes "step") STEP ∷
      [];
  others = None;
}

-- all of these
unfoldable pub all_operations : List Layout
all_operations =
    operation ∷ window_operation ∷ sort_field ∷ lookup_from ∷ bins ∷
    []
