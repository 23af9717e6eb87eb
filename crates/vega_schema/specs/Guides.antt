-- The members of objects: guides.
use Rattle.std.specs.Prelude.{None, List, [], ◌∷◌, codes}
use Rattle.spec_schema.specs.declared.layout.Layout.{Layout}
use Rattle.spec_schema.specs.declared.layout.Test.TheVariants.{Says}
use Rattle.spec_schema.specs.Tables.{must, may}
use Rattle.vega_schema.specs.declared.codes.TheConstants.{ANGLE, AUTOSIZE, AXES, AXIS, CELLS, COUNT, DATA_LIST, EDGE, FLAG, GROUP_ENCODE}
use Rattle.vega_schema.specs.declared.codes.TheConstants.{GROUP_FROM, LABEL_FORMAT, LAYOUT, LEGEND, LEGENDS, MARK, MARKS, SCALES, SIDE}
use Rattle.vega_schema.specs.declared.codes.TheConstants.{SIGNALS, SIZE, SORT, SPACE, TEXT, TICK_COUNT, TOP}

-- a group
unfoldable pub group_mark : Layout
group_mark = record {
  object = MARK;
  when = Says (codes "type") (codes "group") ∷ [];
  rules =
      must (codes "type") TEXT ∷ may (codes "name") TEXT ∷ may (codes "from") GROUP_FROM ∷
      may (codes "encode") GROUP_ENCODE ∷ may (codes "sort") SORT ∷ may (codes "data") DATA_LIST ∷
      may (codes "signals") SIGNALS ∷ may (codes "scales") SCALES ∷ may (codes "layout") LAYOUT ∷
      may (codes "marks") MARKS ∷ may (codes "axes") AXES ∷ may (codes "legends") LEGENDS ∷
      may (codes "title") TEXT ∷
      [];
  others = None;
}

-- an axis
unfoldable pub axis : Layout
axis = record {
  object = AXIS;
  when = [];
  rules =
      must (codes "scale") TEXT ∷ must (codes "orient") SIDE ∷ may (codes "title") TEXT ∷
      may (codes "labels") FLAG ∷ may (codes "ticks") FLAG ∷ may (codes "domain") FLAG ∷ may (codes "grid") FLAG ∷
      may (codes "labelAngle") ANGLE ∷ may (codes "tickCount") TICK_COUNT ∷ may (codes "values") CELLS ∷
      may (codes "format") LABEL_FORMAT ∷ may (codes "edge") EDGE ∷
      [];
  others = None;
}

-- a legend
unfoldable pub legend : Layout
legend = record {
  object = LEGEND;
  when = [];
  rules =
      may (codes "fill") TEXT ∷ may (codes "opacity") TEXT ∷ may (codes "shape") TEXT ∷ may (codes "size") TEXT ∷
      may (codes "title") TEXT ∷ may (codes "format") LABEL_FORMAT ∷
      [];
  others = None;
}

-- the layout of a grid
unfoldable pub grid_layout : Layout
grid_layout = record {
  object = LAYOUT;
  when = [];
  rules =
      may (codes "padding") SPACE ∷ may (codes "columns") COUNT ∷
      [];
  others = None;
}

-- the whole specification
unfoldable pub top : Layout
top = record {
  object = TOP;
  when = [];
  rules =
      may (codes "data") DATA_LIST ∷ may (codes "signals") SIGNALS ∷ may (codes "scales") SCALES ∷
      may (codes "layout") LAYOUT ∷ may (codes "marks") MARKS ∷ may (codes "axes") AXES ∷
      may (codes "legends") LEGENDS ∷ may (codes "title") TEXT ∷ may (codes "$schema") TEXT ∷
      may (codes "description") TEXT ∷ may (codes "width") SIZE ∷ may (codes "height") SIZE ∷
      may (codes "padding") SPACE ∷ may (codes "autosize") AUTOSIZE ∷
      [];
  others = None;
}

-- all of these
abbrev pub all_guides : List Layout
all_guides = group_mark ∷ axis ∷ legend ∷ grid_layout ∷ top ∷ []
