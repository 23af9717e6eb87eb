-- The rows of a unit: the present rows of its source, the transforms of the views round it from the outermost in, its own, the reading of temporal
-- texts, then the bins, units of time, aggregate and stack of its encoding, each a step over the list that the step before it leaves. Lists keep the
-- order of their input, and groups stand in the order of their first rows. A step that mentions a lost parameter (`Parameters`), evaluated there or not,
-- leaves no list, and so does one that is out of range.
use Rattle.std.specs.Prelude.{◌≡◌, refl, ℕ, Bool, Option, Some, None, List, [], ◌∷◌, ◌++◌, find, codes, flat_map, if◌then◌else◌}
use Rattle.std.specs.List.{list_any}
use Rattle.std.specs.Option.{option_map_or}
use Rattle.std.specs.Str.{bytes_eq}
use Rattle.fixed_num.specs.Ranges.{◌>>=◌}
use Rattle.cell_value.specs.Datum.{Datum}
use Rattle.cell_value.specs.State.{Dataset}
use Rattle.expr_syntax.specs.Names.{names_in}
use Rattle.expr_eval.specs.Plain.{no_values}
use Rattle.expr_eval.specs.Values.{Values}
use Rattle.plain_rows.specs.Calculations.{data_calculated}
use Rattle.plain_rows.specs.Filters.{data_filtered}
use Rattle.plain_rows.specs.Folds.{data_folded}
use Rattle.plain_rows.specs.Lookups.{data_looked_up}
use Rattle.plain_rows.specs.TimeUnits.{data_in_time_units}
use Rattle.plain_groups.specs.GroupRows.{data_aggregated, data_join_aggregated, bare_datum}
use Rattle.plain_bins.specs.Binned.{data_binned}
use Rattle.plain_stacks.specs.Stacks.{data_stacked}
use Rattle.plain_windows.specs.Windows.{data_windowed}
use Rattle.plan_kit.specs.declared.plans.UnitPlan.{UnitPlan}
use Rattle.plan_kit.specs.declared.steps.Step.{Step}
use Rattle.plan_kit.specs.declared.steps.Step.TheVariants as step
use Rattle.chart_meaning.specs.Parameters.{is_lost}

-- the present rows of a source; none where no source has the name
abbrev pub rows_named : List Dataset → List ℕ → List Datum
rows_named sources name = option_map_or (λ (s : Dataset). s.rows) (find (λ (s : Dataset). bytes_eq s.name name) sources) []

-- ---- steps

-- The rows that a step leaves; None where it is out of range.
abbrev pub stepped : Values → List Dataset → Step → List Datum → Option (List Datum)
stepped values sources (step.Filter e) rows = data_filtered values e rows
stepped values sources (step.Calculate e name) rows = data_calculated values e name rows
stepped values sources (step.Bin bin) rows = data_binned bin rows
stepped values sources (step.Unit unit) rows = Some (data_in_time_units unit rows)
stepped values sources (step.Group group) rows = data_aggregated group rows
stepped values sources (step.Join group) rows = data_join_aggregated group rows
stepped values sources (step.Stack stack) rows = data_stacked stack rows
stepped values sources (step.Window window) rows = data_windowed window rows
stepped values sources (step.Lookup source lookup) rows = Some (data_looked_up lookup (rows_named sources source) rows)
stepped values sources (step.Fold fold) rows = Some (data_folded fold rows)

-- the rows that steps leave, one after the other
abbrev pub all_stepped : Values → List Dataset → List Step → List Datum → Option (List Datum)
all_stepped values sources [] rows = Some rows
all_stepped values sources (first ∷ others) rows = stepped values sources first rows >>= all_stepped values sources others

-- ---- what steps mention

-- the names of parameters that a step mentions
abbrev pub mentioned : Step → List (List ℕ)
mentioned (step.Filter e) = names_in e
mentioned (step.Calculate e name) = names_in e
mentioned (step.Bin bin) = []
mentioned (step.Unit unit) = []
mentioned (step.Group group) = []
mentioned (step.Join group) = []
mentioned (step.Stack stack) = []
mentioned (step.Window window) = []
mentioned (step.Lookup source lookup) = []
mentioned (step.Fold fold) = []

-- whether steps mention a lost one
abbrev pub mention_lost : Values → List Step → Bool
mention_lost values steps = list_any (is_lost values) (flat_map mentioned steps)

-- the rows that steps leave of those of a source; None also where they mention a lost parameter
abbrev pub rows_after : Values → List Dataset → List ℕ → List Step → Option (List Datum)
rows_after values sources source steps =
    if mention_lost values steps then None else all_stepped values sources steps (rows_named sources source)

-- ---- units

-- the rows of a unit
abbrev pub unit_rows : Values → List Dataset → UnitPlan → Option (List Datum)
unit_rows values sources u = rows_after values sources u.source (u.before ++ u.after)

-- its rows before its aggregate, where a row stands for itself alone
abbrev pub rows_begun : Values → List Dataset → UnitPlan → Option (List Datum)
rows_begun values sources u = rows_after values sources u.source u.before

-- The rules at work.

-- two rows of a source `t`
abbrev a_row : ℕ → Datum
a_row id = bare_datum (record { id = id; branch = 0 })

abbrev two_rows : List Dataset
two_rows = record { name = codes "t"; rows = a_row 1 ∷ a_row 2 ∷ [] } ∷ []

rows_of_sources : (rows_named two_rows (codes "t") ≡ a_row 1 ∷ a_row 2 ∷ []) × (rows_named two_rows (codes "u") ≡ [])
rows_of_sources = (refl, refl)

no_steps_leave_all : rows_after no_values two_rows (codes "t") [] ≡ Some (a_row 1 ∷ a_row 2 ∷ [])
no_steps_leave_all = refl
