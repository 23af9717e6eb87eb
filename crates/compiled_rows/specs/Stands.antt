-- The name of a data set stands for what the data set makes, read where all names stand, as long as no later data set has its name or one of those that it
-- reads.
use Rattle.std.specs.Prelude.{◌≡◌, ◌≢◌, ℕ, true, Option, Some, None, List, ◌∷◌, ◌++◌, All, filter_map, option_to_list}
use Rattle.cell_value.specs.Datum.{Datum}
use Rattle.cell_value.specs.State.{Dataset, ReadsItsId}
use Rattle.expr_eval.specs.Values.{Values}
use Rattle.vega_spec.specs.declared.data.DataSet.{DataSet}
use Rattle.vega_spec.specs.declared.transforms.Transform.{Transform}
use Rattle.vega_spec.specs.declared.transforms.Transform.TheVariants as vega
use Rattle.vega_lists.specs.Lists.{list_of, lists_of}
use Rattle.vega_lists.specs.Scopes.{Scope}
use Rattle.vega_lists.specs.Transforms.{transforms_of}
use Rattle.plan_kit.specs.declared.steps.Step.{Step}
use Rattle.chart_meaning.specs.Rows.{all_stepped}
use Rattle.compiled_rows.specs.Begun.{KeepsCells}
use Rattle.compiled_rows.specs.Leaves.{set_leaves, set_adds_none}
use Rattle.compiled_rows.specs.Parts.{AreCovered}

-- the list in which a transform looks up
abbrev pub looked_in : Transform → Option (List ℕ)
looked_in (vega.Filter f) = None
looked_in (vega.Formula f) = None
looked_in (vega.Extent e) = None
looked_in (vega.Bin b) = None
looked_in (vega.TimeUnit t) = None
looked_in (vega.Aggregate a) = None
looked_in (vega.JoinAggregate a) = None
looked_in (vega.Stack s) = None
looked_in (vega.Window w) = None
looked_in (vega.Lookup l) = Some l.from
looked_in (vega.Fold f) = None

-- the names of lists that a data set reads: with whose rows it begins, and in which it looks up
abbrev pub names_read : DataSet → List (List ℕ)
names_read set = option_to_list set.source ++ filter_map looked_in (transforms_of set)

-- a data set has none of some names
abbrev pub HasNoneOf : List (List ℕ) → DataSet → Type 0
HasNoneOf names set = All (λ name. set.name ≢ name) names

-- It makes the same where all names stand as where it is read.
abbrev pub StandsWhereAllStand : Type 0
StandsWhereAllStand = (values : Values) (sources : List Dataset) (outer scope : Scope) (before behind : List DataSet) (set : DataSet)
    → lists_of values sources outer (before ++ set ∷ behind) ≡ Some scope
    → All (HasNoneOf (set.name ∷ names_read set)) behind → HasNoneOf (names_read set) set
    → list_of values sources scope set ≡ Some (scope set.name)

-- Where its transforms put cells under names of their own alone, it has no other cells in some fields than those with whose rows it begins.
abbrev pub MadeListsAreCovered : Type 0
MadeListsAreCovered = (values : Values) (sources : List Dataset) (scope : Scope) (names : List (List ℕ)) (set : DataSet) (source : List ℕ) (made : List Datum)
    → set.source ≡ Some source → set_leaves names set ≡ true → list_of values sources scope set ≡ Some made → AreCovered names (scope source) made

-- Where they add no cell in some fields, it has no other cells there either, if the rows with which it begins read their ids.
abbrev pub ListsThatAddNoneAreCovered : Type 0
ListsThatAddNoneAreCovered = (values : Values) (sources : List Dataset) (scope : Scope) (names : List (List ℕ)) (set : DataSet) (source : List ℕ)
    (made : List Datum) → set.source ≡ Some source → set_adds_none names set ≡ true → All ReadsItsId (scope source)
    → list_of values sources scope set ≡ Some made → AreCovered names (scope source) made

-- So one that begins with the rows before an aggregate has no cells that the rows behind it lack, where these are grouped by the fields.
abbrev pub ListsOfBegunAreCovered : Type 0
ListsOfBegunAreCovered = (values : Values) (sources : List Dataset) (scope : Scope) (names : List (List ℕ)) (set : DataSet) (source unit : List ℕ)
    (steps : List Step) (made : List Datum) → set.source ≡ Some source → set_adds_none names set ≡ true → All ReadsItsId (scope source)
    → All (KeepsCells names) steps → all_stepped values sources steps (scope source) ≡ Some (scope unit)
    → list_of values sources scope set ≡ Some made → AreCovered names (scope unit) made
