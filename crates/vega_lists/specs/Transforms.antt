-- What the transforms of a Vega specification make of rows.
use Rattle.std.specs.Prelude.{◌≡◌, refl, ℕ, pos, int_lt, Bool, true, IsTrue, Option, Some, None, List, [], ◌∷◌, length, All}
use Rattle.std.specs.Prelude.{nat_eq, unwrap_or, map, codes}
use Rattle.std.specs.Option.{option_map_or}
use Rattle.fixed_num.specs.Ranges.{◌>>=◌}
use Rattle.cell_value.specs.declared.cell.Cell.TheVariants.{Text}
use Rattle.cell_value.specs.Datum.{Datum, datum_with}
use Rattle.expr_eval.specs.Plain.{null_row}
use Rattle.expr_eval.specs.Values.{Values}
use Rattle.plain_rows.specs.Filters.{data_filtered}
use Rattle.plain_rows.specs.Calculations.{data_calculated}
use Rattle.plain_rows.specs.TimeUnits.{data_in_time_units}
use Rattle.plain_rows.specs.Lookups.{data_looked_up}
use Rattle.plain_rows.specs.Folds.{data_folded}
use Rattle.plain_bins.specs.Binned.{data_binned}
use Rattle.plain_groups.specs.GroupRows.{data_aggregated, data_join_aggregated}
use Rattle.plain_stacks.specs.Stacks.{data_stacked}
use Rattle.plain_windows.specs.Windows.{data_windowed}
use Rattle.vega_spec.specs.declared.data.DataSet.{DataSet}
use Rattle.vega_spec.specs.declared.transforms.Bin.{Bin}
use Rattle.vega_spec.specs.declared.transforms.Transform.{Transform}
use Rattle.vega_spec.specs.declared.transforms.Transform.TheVariants as vega
use Rattle.vega_lists.specs.Scopes.{Scope, no_lists}
use Rattle.vega_lists.specs.Operations.{group_settings, window_settings}
use Rattle.vega_lists.specs.Settings.{extent_in, bin_settings, stack_settings, lookup_settings, fold_settings, unit_settings}

-- what a specification that breaks no rule keeps: a lookup that names what it takes has as many names as it has values, and bins of a
-- given width are over 0 wide
abbrev pub is_kept : Transform → Bool
is_kept (vega.Filter f) = true
is_kept (vega.Formula f) = true
is_kept (vega.Extent e) = true
is_kept (vega.Bin b) = option_map_or (int_lt (pos 0)) b.step true
is_kept (vega.TimeUnit t) = true
is_kept (vega.Aggregate a) = true
is_kept (vega.JoinAggregate a) = true
is_kept (vega.Stack s) = true
is_kept (vega.Window w) = true
is_kept (vega.Lookup l) = nat_eq (length (unwrap_or l.as_ l.values)) (length l.values)
is_kept (vega.Fold f) = true

-- the rows with the bins of a field; None where the signal over which they reach has no value, or a number that they need is out of range
abbrev pub binned : Values → Bin → List Datum → Option (List Datum)
binned values b rows = extent_in values b.extent >>= λ taken. data_binned (bin_settings taken b) rows

-- The rows that a transform makes of rows, where names stand for lists; None where a number that it needs is out of range, or a signal that
-- it needs has no value. A filter, a formula, a time unit and a fold make of each row what it says by itself; bins besides by their extent,
-- or else by the least and the greatest number of all rows; a lookup by the row that it finds in the list that its `from` stands for; the
-- others by the rows of a group. An extent leaves the rows as they are.
abbrev pub transformed : Values → Scope → Transform → List Datum → Option (List Datum)
transformed values scope (vega.Filter f) rows = data_filtered values f.expr rows
transformed values scope (vega.Formula f) rows = data_calculated values f.expr f.as_ rows
transformed values scope (vega.Extent e) rows = Some rows
transformed values scope (vega.Bin b) rows = binned values b rows
transformed values scope (vega.TimeUnit t) rows = Some (data_in_time_units (unit_settings t) rows)
transformed values scope (vega.Aggregate a) rows = data_aggregated (group_settings a) rows
transformed values scope (vega.JoinAggregate a) rows = data_join_aggregated (group_settings a) rows
transformed values scope (vega.Stack s) rows = data_stacked (stack_settings s) rows
transformed values scope (vega.Window w) rows = data_windowed (window_settings w) rows
transformed values scope (vega.Lookup l) rows = Some (data_looked_up (lookup_settings l) (scope l.from) rows)
transformed values scope (vega.Fold f) rows = Some (data_folded (fold_settings f) rows)

-- the rows that transforms make one after the other; None where one overflows
abbrev pub all_transformed : Values → Scope → List Transform → List Datum → Option (List Datum)
all_transformed values scope [] rows = Some rows
all_transformed values scope (transform ∷ others) rows = do
  made ← transformed values scope transform rows
  all_transformed values scope others made

-- the transforms of a data set, in order; an absent list has none
abbrev pub transforms_of : DataSet → List Transform
transforms_of set = unwrap_or set.transform []

-- the test holds of each of some transforms
abbrev pub AllTransforms : (Transform → Bool) → List Transform → Type 0
AllTransforms test transforms = All (λ transform. IsTrue (test transform)) transforms

-- the test holds of each transform of a data set
abbrev pub OfTransforms : (Transform → Bool) → DataSet → Type 0
OfTransforms test set = AllTransforms test (transforms_of set)

-- The rules at work.

abbrev a_row : ℕ → Datum
a_row id = record { key = record { id = id; branch = 0 }; cell = null_row }

-- what is read of each row that was made
abbrev each_of : {X : Type 0} → (Datum → X) → Option (List Datum) → Option (List X)
each_of read made = made >>= λ rows. Some (map read rows)

-- a fold of `a` and `b`, and then of the names that it gave
abbrev a_fold_of_a_fold : List Transform
a_fold_of_a_fold =
    vega.Fold record { fields = codes "a" ∷ codes "b" ∷ []; as_ = None }
    ∷ vega.Fold record { fields = codes "key" ∷ codes "value" ∷ []; as_ = Some (codes "k", codes "v") }
    ∷ []

the_branches_of_a_fold_of_a_fold : (values : Values)
    → each_of (λ (row : Datum). row.key.branch) (all_transformed values no_lists a_fold_of_a_fold (a_row 7 ∷ []))
    ≡ Some (0 ∷ 1 ∷ 2 ∷ 3 ∷ [])
the_branches_of_a_fold_of_a_fold values = refl

the_cells_of_a_fold_of_a_fold : (values : Values)
    → each_of (λ (row : Datum). row.cell (codes "k")) (all_transformed values no_lists a_fold_of_a_fold (a_row 7 ∷ []))
    ≡ Some (Text (codes "key") ∷ Text (codes "value") ∷ Text (codes "key") ∷ Text (codes "value") ∷ [])
the_cells_of_a_fold_of_a_fold values = refl

-- what a row takes of a list under the name of the row's field
abbrev a_lookup : Transform
a_lookup = vega.Lookup record {
  from = codes "other";
  key = codes "k";
  fields = codes "k" ∷ [];
  values = codes "v" ∷ [];
  as_ = None;
  default = Some (Text (codes "none"));
}

a_list_without_rows_gives_the_default : (values : Values)
    → each_of (λ (row : Datum). row.cell (codes "v")) (transformed values no_lists a_lookup (a_row 7 ∷ []))
    ≡ Some (Text (codes "none") ∷ [])
a_list_without_rows_gives_the_default values = refl

-- in each list one row, whose `v` is the name of the list
abbrev its_own_name : Scope
its_own_name name = datum_with (codes "v") (Text name) (a_row 1) ∷ []

the_list_that_a_name_stands_for : (values : Values)
    → each_of (λ (row : Datum). row.cell (codes "v")) (transformed values its_own_name a_lookup (a_row 7 ∷ []))
    ≡ Some (Text (codes "other") ∷ [])
the_list_that_a_name_stands_for values = refl
