-- The members of objects: groupings.
use Rattle.std.specs.Prelude.{None, List, [], ◌∷◌, codes}
use Rattle.spec_schema.specs.declared.layout.Layout.{Layout}
use Rattle.spec_schema.specs.declared.layout.Test.TheVariants.{Says}
use Rattle.spec_schema.specs.Tables.{must, may}
use Rattle.vega_schema.specs.declared.codes.TheConstants.{CELL, FLAG, FRAME, FREE, NOTHING, ONE_TEXT, OPERATIONS, PARAMETERS, SORT, TEXT}
use Rattle.vega_schema.specs.declared.codes.TheConstants.{TEXTS, TEXTS_OR_NULLS, TRANSFORM, WINDOW_OPERATIONS}

-- a transform of the type `aggregate`
unfoldable pub aggregate : Layout
aggregate = record {
  object = TRANSFORM;
  when = Says (codes "type") (codes "aggregate") ∷ [];
  rules =
      must (codes "type") TEXT ∷ may (codes "groupby") TEXTS ∷ may (codes "ops") OPERATIONS ∷
      may (codes "fields") TEXTS_OR_NULLS ∷ may (codes "as") TEXTS_OR_NULLS ∷
      [];
  others = None;
}

-- a transform of the type `joinaggregate`
unfoldable pub join_aggregate : Layout
join_aggregate = record {
  object = TRANSFORM;
  when = Says (codes "type") (codes "joinaggregate") ∷ [];
  rules =
      must (codes "type") TEXT ∷ may (codes "groupby") TEXTS ∷ may (codes "ops") OPERATIONS ∷
      may (codes "fields") TEXTS_OR_NULLS ∷ may (codes "as") TEXTS_OR_NULLS ∷
      [];
  others = None;
}

-- a transform of the type `window`
unfoldable pub window : Layout
window = record {
  object = TRANSFORM;
  when = Says (codes "type") (codes "window") ∷ [];
  rules =
      must (codes "type") TEXT ∷ must (codes "ops") WINDOW_OPERATIONS ∷ may (codes "fields") TEXTS_OR_NULLS ∷
      may (codes "params") PARAMETERS ∷ may (codes "as") TEXTS_OR_NULLS ∷ may (codes "groupby") TEXTS ∷
      may (codes "sort") SORT ∷ may (codes "frame") FRAME ∷ may (codes "ignorePeers") FLAG ∷
      [];
  others = None;
}

-- a transform of the type `lookup`
unfoldable pub lookup : Layout
lookup = record {
  object = TRANSFORM;
  when = Says (codes "type") (codes "lookup") ∷ [];
  rules =
      must (codes "type") TEXT ∷ must (codes "from") TEXT ∷ must (codes "key") TEXT ∷
      must (codes "fields") ONE_TEXT ∷ must (codes "values") TEXTS ∷ may (codes "as") TEXTS ∷
      may (codes "default") CELL ∷
      [];
  others = None;
}

-- a transform of no known type: its type is missing or wrong, and it may have each member that some transform has
unfoldable pub no_transform : Layout
no_transform = record {
  object = TRANSFORM;
  when = [];
  rules =
      must (codes "type") NOTHING ∷ may (codes "expr") FREE ∷ may (codes "as") FREE ∷ may (codes "field") FREE ∷
      may (codes "signal") FREE ∷ may (codes "extent") FREE ∷ may (codes "maxbins") FREE ∷
      may (codes "step") FREE ∷ may (codes "units") FREE ∷ may (codes "groupby") FREE ∷ may (codes "ops") FREE ∷
      may (codes "fields") FREE ∷ may (codes "sort") FREE ∷ may (codes "offset") FREE ∷
      may (codes "params") FREE ∷ may (codes "frame") FREE ∷ may (codes "ignorePeers") FREE ∷
      may (codes "from") FREE ∷ may (codes "key") FREE ∷ may (codes "values") FREE ∷ may (codes "default") FREE ∷
      [];
  others = None;
}

-- all of these
abbrev pub all_groupings : List Layout
all_groupings = aggregate ∷ join_aggregate ∷ window ∷ lookup ∷ no_transform ∷ []
