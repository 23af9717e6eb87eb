-- The members of objects: sizes, the look of all views, and what views share.
use Rattle.std.specs.Prelude.{None, List, [], ◌∷◌, codes}
use Rattle.spec_schema.specs.declared.layout.Layout.{Layout}
use Rattle.spec_schema.specs.Tables.{must, may}
use Rattle.vl_schema.specs.declared.codes.TheConstants.{CONFIG, CONFIG_VIEW, FREE, PLAIN_SIZE, RESOLVE, RESOLVE_SCALE, SHARING, SIZE, SIZE_STEP}

-- a size by its step
unfoldable pub step : Layout
step = record {
  object = SIZE;
  when = [];
  rules =
      must (codes "step") SIZE_STEP ∷
      [];
  others = None;
}

-- the look of all views
unfoldable pub config : Layout
config = record {
  object = CONFIG;
  when = [];
  rules =
      may (codes "view") CONFIG_VIEW ∷
      [];
  others = None;
}

-- the sizes of all views
unfoldable pub config_view : Layout
config_view = record {
  object = CONFIG_VIEW;
  when = [];
  rules =
      may (codes "continuousWidth") PLAIN_SIZE ∷ may (codes "continuousHeight") PLAIN_SIZE ∷
      may (codes "discreteWidth") SIZE ∷ may (codes "discreteHeight") SIZE ∷ may (codes "step") SIZE_STEP ∷
      may (codes "stroke") FREE ∷ may (codes "strokeWidth") FREE ∷
      [];
  others = None;
}

-- what views share
unfoldable pub resolve : Layout
resolve = record {
  object = RESOLVE;
  when = [];
  rules =
      may (codes "scale") RESOLVE_SCALE ∷
      [];
  others = None;
}

-- which scales views share
unfoldable pub resolve_scale : Layout
resolve_scale = record {
  object = RESOLVE_SCALE;
  when = [];
  rules =
      may (codes "x") SHARING ∷ may (codes "y") SHARING ∷ may (codes "x2") SHARING ∷ may (codes "y2") SHARING ∷
      may (codes "color") SHARING ∷ may (codes "opacity") SHARING ∷ may (codes "size") SHARING ∷
      may (codes "shape") SHARING ∷ may (codes "detail") SHARING ∷ may (codes "text") SHARING ∷
      may (codes "row") SHARING ∷ may (codes "column") SHARING ∷ may (codes "facet") SHARING ∷
      [];
  others = None;
}

-- all of these
unfoldable pub all_sizes : List Layout
all_sizes =
    step ∷ config ∷ config_view ∷ resolve ∷ resolve_scale ∷
    []
