-- Rows before an aggregate have no cells that the rows behind it lack, in the fields by which the aggregate groups: each is in a group, whose row has its cells
-- there. So it is behind a stack, which puts cells under names of its own. All of them read their ids.
use Rattle.std.specs.Prelude.{◌≡◌, ℕ, true, Some, List, [], ◌∷◌, All, map}
use Rattle.std.specs.List.{list_all}
use Rattle.cell_value.specs.Datum.{Datum}
use Rattle.cell_value.specs.State.{Dataset, State, IsState, ReadsItsId}
use Rattle.expr_eval.specs.Values.{Values}
use Rattle.plain_rows.specs.declared.transforms.GroupOf.{GroupOf}
use Rattle.plain_rows.specs.declared.transforms.OpOf.{OpOf}
use Rattle.plan_kit.specs.declared.steps.Step.{Step}
use Rattle.plan_kit.specs.declared.steps.Step.TheVariants as step
use Rattle.chart_meaning.specs.Rows.{all_stepped}
use Rattle.compiled_rows.specs.Follows.{is_outside}
use Rattle.compiled_rows.specs.Lists.{rows_left}
use Rattle.compiled_rows.specs.Parts.{is_one_of, AreCovered}

-- a group has some names among those by which it groups, and gives nothing under them
pub record GroupsBy (names : List (List ℕ)) (g : GroupOf) : Type 0 where
  pub among : list_all (is_one_of g.groupby) names ≡ true
  pub outs : list_all (is_outside names) (map (λ (op : OpOf). op.out) g.ops) ≡ true

-- a step groups by these names, or puts cells under others alone
abbrev pub KeepsCells : List (List ℕ) → Step → Type 0
KeepsCells names (step.Filter e) = ⊥
KeepsCells names (step.Calculate e name) = ⊥
KeepsCells names (step.Bin bin) = ⊥
KeepsCells names (step.Unit unit) = ⊥
KeepsCells names (step.Group g) = GroupsBy names g
KeepsCells names (step.Join g) = ⊥
KeepsCells names (step.Stack s) = list_all (is_outside names) (s.out ∷ s.out_end ∷ []) ≡ true
KeepsCells names (step.Window window) = ⊥
KeepsCells names (step.Lookup source lookup) = ⊥
KeepsCells names (step.Fold fold) = ⊥

-- Such steps leave rows that cover those before them; the rows have to read their ids, as a group's row does.
abbrev pub StepsCover : Type 0
StepsCover = (values : Values) (sources : List Dataset) (names : List (List ℕ)) (steps : List Step) (rows made : List Datum)
    → All (KeepsCells names) steps → All ReadsItsId rows → all_stepped values sources steps rows ≡ Some made → AreCovered names made rows

-- Steps leave rows that read their ids where those before them do,
abbrev pub StepsReadIds : Type 0
StepsReadIds = (values : Values) (sources : List Dataset) (steps : List Step) (rows made : List Datum) → All ReadsItsId rows
    → all_stepped values sources steps rows ≡ Some made → All ReadsItsId made

-- so in each state those do that steps leave of a source.
abbrev pub RowsLeftReadIds : Type 0
RowsLeftReadIds = (values : Values) (st : State) (source : List ℕ) (steps : List Step) (rows : List Datum) → IsState st
    → rows_left values st.sources source steps ≡ Some rows → All ReadsItsId rows
