-- The members of objects: conditions. One with `datum` has no form.
use Rattle.std.specs.Prelude.{ℕ, None, List, [], ◌∷◌, ◌++◌, codes}
use Rattle.spec_schema.specs.declared.layout.Layout.{Layout}
use Rattle.spec_schema.specs.declared.layout.Rule.{Rule}
use Rattle.spec_schema.specs.declared.layout.Test.TheVariants.{Lacks, Any, Leads, Alone}
use Rattle.spec_schema.specs.Tables.{may}
use Rattle.vl_schema.specs.declared.codes.TheConstants.{CHANNEL_KINDS, FIELD_NAMES, FILTER, FLAG, SCALAR, TEST_KINDS, TEXT}
use Rattle.vl_schema.specs.Channels.{field_members}

-- the members of a test by a parameter
unfoldable pub selection_test : List Rule
selection_test =
    may (codes "param") TEXT ∷ may (codes "empty") FLAG ∷
    []

-- the member of a test by a filter
unfoldable pub filter_test : List Rule
filter_test =
    may (codes "test") FILTER ∷
    []

-- a value where a parameter allows it
unfoldable pub value_by_selection : ℕ → Layout
value_by_selection object = record {
  object = object;
  when = Alone TEST_KINDS (codes "param") ∷ Lacks (codes "datum") ∷ Leads CHANNEL_KINDS (codes "value") ∷ [];
  rules =
      selection_test ++ (may (codes "value") SCALAR ∷ []);
  others = None;
}

-- a field where a parameter allows it
unfoldable pub field_by_selection : ℕ → ℕ → ℕ → Layout
field_by_selection object axes tests = record {
  object = object;
  when = Alone TEST_KINDS (codes "param") ∷ Lacks (codes "datum") ∷ Any FIELD_NAMES ∷ [];
  rules =
      selection_test ++ field_members axes tests;
  others = None;
}

-- a value where a filter allows it
unfoldable pub value_by_filter : ℕ → Layout
value_by_filter object = record {
  object = object;
  when = Alone TEST_KINDS (codes "test") ∷ Lacks (codes "datum") ∷ Leads CHANNEL_KINDS (codes "value") ∷ [];
  rules =
      filter_test ++ (may (codes "value") SCALAR ∷ []);
  others = None;
}

-- a field where a filter allows it
unfoldable pub field_by_filter : ℕ → ℕ → ℕ → Layout
field_by_filter object axes tests = record {
  object = object;
  when = Alone TEST_KINDS (codes "test") ∷ Lacks (codes "datum") ∷ Any FIELD_NAMES ∷ [];
  rules =
      filter_test ++ field_members axes tests;
  others = None;
}

-- the conditions of a channel
unfoldable pub conditions_of : ℕ → ℕ → ℕ → List Layout
conditions_of object axes tests =
    value_by_selection object ∷ field_by_selection object axes tests ∷ value_by_filter object ∷
    field_by_filter object axes tests ∷
    []
