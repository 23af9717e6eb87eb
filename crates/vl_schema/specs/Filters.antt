-- The members of objects: filters, and tests of conditions.
use Rattle.std.specs.Prelude.{ℕ, None, List, [], ◌∷◌, ◌++◌, codes}
use Rattle.spec_schema.specs.declared.layout.Layout.{Layout}
use Rattle.spec_schema.specs.declared.layout.Test.TheVariants.{Alone}
use Rattle.spec_schema.specs.Tables.{may}
use Rattle.vl_schema.specs.declared.codes.TheConstants.{COMPARISONS, FILTER, FILTERS, FILTER_KINDS, FILTER_NAMES, FLAG, NUMBER_RANGE, SCALAR}
use Rattle.vl_schema.specs.declared.codes.TheConstants.{SCALARS, TEXT, TIME_UNIT}

-- by a parameter
unfoldable pub filter_by_selection : Layout
filter_by_selection = record {
  object = FILTER;
  when = Alone FILTER_NAMES (codes "param") ∷ [];
  rules =
      may (codes "param") TEXT ∷ may (codes "empty") FLAG ∷
      [];
  others = None;
}

-- by a comparison of a field
unfoldable pub comparison : List ℕ → ℕ → Layout
comparison name operand = record {
  object = FILTER;
  when = Alone FILTER_KINDS (codes "field") ∷ Alone COMPARISONS name ∷ [];
  rules =
      may (codes "field") TEXT ∷ may name operand ∷ may (codes "timeUnit") TIME_UNIT ∷
      [];
  others = None;
}

-- by other filters
unfoldable pub combination : List ℕ → ℕ → Layout
combination name operand = record {
  object = FILTER;
  when = Alone FILTER_NAMES name ∷ [];
  rules =
      may name operand ∷
      [];
  others = None;
}

-- the comparisons with a cell
unfoldable pub cell_comparisons : List Layout
cell_comparisons =
    comparison (codes "equal") SCALAR ∷ comparison (codes "lt") SCALAR ∷ comparison (codes "lte") SCALAR ∷
    comparison (codes "gt") SCALAR ∷ comparison (codes "gte") SCALAR ∷
    []

-- the combinations of filters
unfoldable pub combinations : List Layout
combinations =
    combination (codes "and") FILTERS ∷ combination (codes "or") FILTERS ∷ combination (codes "not") FILTER ∷
    []

-- all other filters that are objects
unfoldable pub other_filters : List Layout
other_filters =
    filter_by_selection ∷ comparison (codes "range") NUMBER_RANGE ∷ comparison (codes "oneOf") SCALARS ∷
    comparison (codes "valid") FLAG ∷
    []

-- all filters that are objects
unfoldable pub all_filters : List Layout
all_filters = cell_comparisons ++ combinations ++ other_filters
