-- The members of objects: facets. A definition with `value` or `datum`, or with `condition` alone, has no form.
use Rattle.std.specs.Prelude.{ℕ, None, List, [], ◌∷◌, codes}
use Rattle.spec_schema.specs.declared.layout.Layout.{Layout}
use Rattle.spec_schema.specs.declared.layout.Rule.{Rule}
use Rattle.spec_schema.specs.declared.layout.Test.TheVariants.{Lacks, Any, Beyond}
use Rattle.spec_schema.specs.Tables.{must, may}
use Rattle.vl_schema.specs.declared.codes.TheConstants.{AXIS, BIN, CONDITIONS, CONDITION_ALONE, COUNT, FACET, FACET_CHANNEL, FACET_NAMES}
use Rattle.vl_schema.specs.declared.codes.TheConstants.{FIELD_TYPE, HEADER, LABEL_FORMAT, LEGEND, NOTHING, SCALE, SORT, SPACE, STACK, TEXT}
use Rattle.vl_schema.specs.declared.codes.TheConstants.{TIME_UNIT, TITLE}

-- the members of a definition of a facet, which has no aggregate
unfoldable pub facet_members : List Rule
facet_members =
    must (codes "field") TEXT ∷ may (codes "type") FIELD_TYPE ∷ may (codes "aggregate") NOTHING ∷
    may (codes "bin") BIN ∷ may (codes "timeUnit") TIME_UNIT ∷ may (codes "title") TITLE ∷ may (codes "sort") SORT ∷
    may (codes "scale") SCALE ∷ may (codes "stack") STACK ∷ may (codes "axis") AXIS ∷ may (codes "legend") LEGEND ∷
    may (codes "header") HEADER ∷ may (codes "format") LABEL_FORMAT ∷ may (codes "condition") CONDITIONS ∷
    may (codes "columns") COUNT ∷ may (codes "spacing") SPACE ∷
    []

-- the facet of a faceted view by its rows and columns
unfoldable pub facet_by_parts : Layout
facet_by_parts = record {
  object = FACET;
  when = Lacks (codes "field") ∷ Any FACET_NAMES ∷ [];
  rules =
      may (codes "row") FACET_CHANNEL ∷ may (codes "column") FACET_CHANNEL ∷
      [];
  others = None;
}

-- a definition of a facet
unfoldable pub facet_definition : ℕ → Layout
facet_definition object = record {
  object = object;
  when = Lacks (codes "value") ∷ Lacks (codes "datum") ∷ Lacks (codes "condition") ∷ [];
  rules =
      facet_members;
  others = None;
}

-- a definition of a facet that has a condition and more
unfoldable pub facet_with_condition : ℕ → Layout
facet_with_condition object = record {
  object = object;
  when = Lacks (codes "value") ∷ Lacks (codes "datum") ∷ Beyond CONDITION_ALONE ∷ [];
  rules =
      facet_members;
  others = None;
}

-- all of these
unfoldable pub all_facets : List Layout
all_facets =
    facet_by_parts ∷ facet_definition FACET ∷ facet_with_condition FACET ∷ facet_definition FACET_CHANNEL ∷
    facet_with_condition FACET_CHANNEL ∷
    []
