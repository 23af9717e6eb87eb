-- The members of objects: parameters.
use Rattle.std.specs.Prelude.{None, List, [], ◌∷◌, codes}
use Rattle.spec_schema.specs.declared.layout.Layout.{Layout}
use Rattle.spec_schema.specs.declared.layout.Test.TheVariants.{Lacks, Says, Alone}
use Rattle.spec_schema.specs.Tables.{must, may}
use Rattle.vl_schema.specs.declared.codes.TheConstants.{BIND, CELL, CHANNEL_LIST, CLEAR, EXPRESSION, FREE, INTERVAL_EVENTS, PARAMETER}
use Rattle.vl_schema.specs.declared.codes.TheConstants.{PARAMETER_KINDS, PARAMETER_NAME, POINT_EVENTS, SELECT, SELECT_EVENTS, SELECT_TYPE, TEXTS}
use Rattle.vl_schema.specs.declared.codes.TheConstants.{TOGGLE}

-- a parameter with a value
unfoldable pub value_parameter : Layout
value_parameter = record {
  object = PARAMETER;
  when = Lacks (codes "expr") ∷ Lacks (codes "select") ∷ Lacks (codes "views") ∷ [];
  rules =
      must (codes "name") PARAMETER_NAME ∷ may (codes "value") CELL ∷ may (codes "bind") BIND ∷
      [];
  others = None;
}

-- a parameter that an expression computes
unfoldable pub computed_parameter : Layout
computed_parameter = record {
  object = PARAMETER;
  when = Alone PARAMETER_KINDS (codes "expr") ∷ Lacks (codes "views") ∷ [];
  rules =
      must (codes "name") PARAMETER_NAME ∷ may (codes "expr") EXPRESSION ∷ may (codes "bind") BIND ∷
      [];
  others = None;
}

-- a parameter that is a selection
unfoldable pub selection_parameter : Layout
selection_parameter = record {
  object = PARAMETER;
  when = Alone PARAMETER_KINDS (codes "select") ∷ [];
  rules =
      must (codes "name") PARAMETER_NAME ∷ may (codes "select") SELECT ∷ may (codes "views") TEXTS ∷
      may (codes "bind") BIND ∷
      [];
  others = None;
}

-- a selection of points
unfoldable pub point : Layout
point = record {
  object = SELECT;
  when = Says (codes "type") (codes "point") ∷ [];
  rules =
      must (codes "type") SELECT_TYPE ∷ may (codes "fields") TEXTS ∷ may (codes "encodings") CHANNEL_LIST ∷
      may (codes "on") POINT_EVENTS ∷ may (codes "clear") CLEAR ∷ may (codes "toggle") TOGGLE ∷
      may (codes "mark") FREE ∷
      [];
  others = None;
}

-- a selection of intervals
unfoldable pub interval : Layout
interval = record {
  object = SELECT;
  when = Says (codes "type") (codes "interval") ∷ [];
  rules =
      must (codes "type") SELECT_TYPE ∷ may (codes "fields") TEXTS ∷ may (codes "encodings") CHANNEL_LIST ∷
      may (codes "on") INTERVAL_EVENTS ∷ may (codes "clear") CLEAR ∷ may (codes "toggle") TOGGLE ∷
      may (codes "mark") FREE ∷
      [];
  others = None;
}

-- a selection of no known type: its type is missing or wrong
unfoldable pub no_selection : Layout
no_selection = record {
  object = SELECT;
  when = [];
  rules =
      must (codes "type") SELECT_TYPE ∷ may (codes "fields") TEXTS ∷ may (codes "encodings") CHANNEL_LIST ∷
      may (codes "on") SELECT_EVENTS ∷ may (codes "clear") CLEAR ∷ may (codes "toggle") TOGGLE ∷
      may (codes "mark") FREE ∷
      [];
  others = None;
}

-- all of these
unfoldable pub all_parameters : List Layout
all_parameters =
    value_parameter ∷ computed_parameter ∷ selection_parameter ∷ point ∷ interval ∷ no_selection ∷
    []
