-- The members of objects: scales.
use Rattle.std.specs.Prelude.{None, List, [], ◌∷◌, codes}
use Rattle.spec_schema.specs.declared.layout.Layout.{Layout}
use Rattle.spec_schema.specs.declared.layout.Test.TheVariants.{Says}
use Rattle.spec_schema.specs.Tables.{must, may}
use Rattle.vega_schema.specs.declared.codes.TheConstants.{ANY_RANGE, CONTINUOUS_RANGE, DISCRETE_RANGE, EXPRESSION_SIGNAL, FLAG, NOTHING}
use Rattle.vega_schema.specs.declared.codes.TheConstants.{ORDINAL_RANGE, SCALE, SCALE_DOMAIN, SHARE, TEXT}

-- a scale of the type `linear`
unfoldable pub linear_scale : Layout
linear_scale = record {
  object = SCALE;
  when = Says (codes "type") (codes "linear") ∷ [];
  rules =
      must (codes "name") TEXT ∷ must (codes "type") TEXT ∷ must (codes "domain") SCALE_DOMAIN ∷
      may (codes "domainRaw") EXPRESSION_SIGNAL ∷ must (codes "range") CONTINUOUS_RANGE ∷
      may (codes "zero") FLAG ∷ may (codes "nice") FLAG ∷ may (codes "reverse") FLAG ∷
      may (codes "padding") SHARE ∷ may (codes "paddingInner") SHARE ∷ may (codes "paddingOuter") SHARE ∷
      [];
  others = None;
}

-- a scale of the type `time`
unfoldable pub time_scale : Layout
time_scale = record {
  object = SCALE;
  when = Says (codes "type") (codes "time") ∷ [];
  rules =
      must (codes "name") TEXT ∷ must (codes "type") TEXT ∷ must (codes "domain") SCALE_DOMAIN ∷
      may (codes "domainRaw") EXPRESSION_SIGNAL ∷ must (codes "range") CONTINUOUS_RANGE ∷
      may (codes "zero") FLAG ∷ may (codes "nice") FLAG ∷ may (codes "reverse") FLAG ∷
      may (codes "padding") SHARE ∷ may (codes "paddingInner") SHARE ∷ may (codes "paddingOuter") SHARE ∷
      [];
  others = None;
}

-- a scale of the type `band`
unfoldable pub band_scale : Layout
band_scale = record {
  object = SCALE;
  when = Says (codes "type") (codes "band") ∷ [];
  rules =
      must (codes "name") TEXT ∷ must (codes "type") TEXT ∷ must (codes "domain") SCALE_DOMAIN ∷
      may (codes "domainRaw") EXPRESSION_SIGNAL ∷ must (codes "range") DISCRETE_RANGE ∷ may (codes "zero") FLAG ∷
      may (codes "nice") FLAG ∷ may (codes "reverse") FLAG ∷ may (codes "padding") SHARE ∷
      may (codes "paddingInner") SHARE ∷ may (codes "paddingOuter") SHARE ∷
      [];
  others = None;
}

-- a scale of the type `point`
unfoldable pub point_scale : Layout
point_scale = record {
  object = SCALE;
  when = Says (codes "type") (codes "point") ∷ [];
  rules =
      must (codes "name") TEXT ∷ must (codes "type") TEXT ∷ must (codes "domain") SCALE_DOMAIN ∷
      may (codes "domainRaw") EXPRESSION_SIGNAL ∷ must (codes "range") DISCRETE_RANGE ∷ may (codes "zero") FLAG ∷
      may (codes "nice") FLAG ∷ may (codes "reverse") FLAG ∷ may (codes "padding") SHARE ∷
      may (codes "paddingInner") SHARE ∷ may (codes "paddingOuter") SHARE ∷
      [];
  others = None;
}

-- a scale of the type `ordinal`
unfoldable pub ordinal_scale : Layout
ordinal_scale = record {
  object = SCALE;
  when = Says (codes "type") (codes "ordinal") ∷ [];
  rules =
      must (codes "name") TEXT ∷ must (codes "type") TEXT ∷ must (codes "domain") SCALE_DOMAIN ∷
      may (codes "domainRaw") EXPRESSION_SIGNAL ∷ must (codes "range") ORDINAL_RANGE ∷ may (codes "zero") FLAG ∷
      may (codes "nice") FLAG ∷ may (codes "reverse") FLAG ∷ may (codes "padding") SHARE ∷
      may (codes "paddingInner") SHARE ∷ may (codes "paddingOuter") SHARE ∷
      [];
  others = None;
}

-- a scale of no known type: its type is missing or wrong, and its range is that of some scale
unfoldable pub no_scale : Layout
no_scale = record {
  object = SCALE;
  when = [];
  rules =
      must (codes "name") TEXT ∷ must (codes "type") NOTHING ∷ must (codes "domain") SCALE_DOMAIN ∷
      may (codes "domainRaw") EXPRESSION_SIGNAL ∷ must (codes "range") ANY_RANGE ∷ may (codes "zero") FLAG ∷
      may (codes "nice") FLAG ∷ may (codes "reverse") FLAG ∷ may (codes "padding") SHARE ∷
      may (codes "paddingInner") SHARE ∷ may (codes "paddingOuter") SHARE ∷
      [];
  others = None;
}

-- all of these
abbrev pub all_scales : List Layout
all_scales = linear_scale ∷ time_scale ∷ band_scale ∷ point_scale ∷ ordinal_scale ∷ no_scale ∷ []
