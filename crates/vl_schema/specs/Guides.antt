-- The members of objects: scales, guides and orders of channels.
use Rattle.std.specs.Prelude.{ℕ, None, List, [], ◌∷◌, ◌++◌, codes}
use Rattle.spec_schema.specs.declared.layout.Layout.{Layout}
use Rattle.spec_schema.specs.declared.layout.Test.TheVariants.{Says}
use Rattle.spec_schema.specs.Tables.{must, may}
use Rattle.vl_schema.specs.declared.codes.TheConstants.{ANGLE, AXIS, CHANNEL_NAME, FLAG, FREE, HEADER, LABEL_FORMAT, LEGEND, OPERATION, ORDER}
use Rattle.vl_schema.specs.declared.codes.TheConstants.{RANGE, SCALARS, SCALE, SCALE_DOMAIN, SCALE_TYPE, SCHEME, SHARE, SIDE, SORT, TEXT}
use Rattle.vl_schema.specs.declared.codes.TheConstants.{TICK_COUNT, TITLE, X_AXIS, X_SIDE, Y_AXIS, Y_SIDE}

-- a scale
unfoldable pub scale : Layout
scale = record {
  object = SCALE;
  when = [];
  rules =
      may (codes "type") SCALE_TYPE ∷ may (codes "domain") SCALE_DOMAIN ∷ may (codes "range") RANGE ∷
      may (codes "scheme") SCHEME ∷ may (codes "zero") FLAG ∷ may (codes "nice") FLAG ∷ may (codes "padding") SHARE ∷
      may (codes "paddingInner") SHARE ∷ may (codes "paddingOuter") SHARE ∷ may (codes "reverse") FLAG ∷
      [];
  others = None;
}

-- the domain that a selection gives
unfoldable pub selected_domain : Layout
selected_domain = record {
  object = SCALE_DOMAIN;
  when = [];
  rules =
      must (codes "param") TEXT ∷ may (codes "encoding") CHANNEL_NAME ∷
      [];
  others = None;
}

-- an axis, with the sides along which it stands
unfoldable pub axis_along : ℕ → ℕ → Layout
axis_along object sides = record {
  object = object;
  when = [];
  rules =
      may (codes "title") TITLE ∷ may (codes "labels") FLAG ∷ may (codes "ticks") FLAG ∷ may (codes "domain") FLAG ∷
      may (codes "grid") FLAG ∷ may (codes "labelAngle") ANGLE ∷ may (codes "tickCount") TICK_COUNT ∷
      may (codes "values") SCALARS ∷ may (codes "orient") sides ∷ may (codes "format") LABEL_FORMAT ∷
      [];
  others = None;
}

-- a legend
unfoldable pub legend : Layout
legend = record {
  object = LEGEND;
  when = [];
  rules =
      may (codes "title") TITLE ∷ may (codes "format") LABEL_FORMAT ∷
      [];
  others = None;
}

-- a header
unfoldable pub header : Layout
header = record {
  object = HEADER;
  when = [];
  rules =
      may (codes "labels") FLAG ∷ may (codes "title") FREE ∷
      [];
  others = None;
}

-- the order of a channel by a count
unfoldable pub sort_by_count : Layout
sort_by_count = record {
  object = SORT;
  when = Says (codes "op") (codes "count") ∷ [];
  rules =
      may (codes "field") TEXT ∷ may (codes "op") OPERATION ∷ may (codes "order") ORDER ∷
      [];
  others = None;
}

-- the order of a channel by an aggregate of a field
unfoldable pub sort_by_field : Layout
sort_by_field = record {
  object = SORT;
  when = [];
  rules =
      must (codes "field") TEXT ∷ may (codes "op") OPERATION ∷ may (codes "order") ORDER ∷
      [];
  others = None;
}

-- the axes
unfoldable pub all_axes : List Layout
all_axes =
    axis_along X_AXIS X_SIDE ∷ axis_along Y_AXIS Y_SIDE ∷ axis_along AXIS SIDE ∷
    []

-- all of these
unfoldable pub all_guides : List Layout
all_guides = all_axes ++
    (scale ∷ selected_domain ∷ legend ∷ header ∷ sort_by_count ∷ sort_by_field ∷
    [])
