-- The top of a compiled specification and the chart itself as a copy. Names stand there for lists where all units have their rows in the direct meaning, and
-- the lists besides are in range and mention no signal without value; then the names of units stand for these rows.
use Rattle.std.specs.Prelude.{◌≡◌, ℕ, ◌++◌, true, Option, Some, None, List, All, map, slice_get, if◌then◌else◌}
use Rattle.std.specs.List.{list_any}
use Rattle.std.specs.Option.{option_map}
use Rattle.fixed_num.specs.Ranges.{◌>>=◌, all_found}
use Rattle.cell_value.specs.Datum.{Datum}
use Rattle.cell_value.specs.State.{Dataset, State}
use Rattle.expr_eval.specs.Stores.{values_of_stores}
use Rattle.expr_eval.specs.Values.{Values}
use Rattle.vega_spec.specs.declared.data.DataSet.{DataSet}
use Rattle.vega_lists.specs.Lists.{lists_of}
use Rattle.vega_lists.specs.Scopes.{Scope}
use Rattle.vega_signals.specs.Lacking.{set_lacks}
use Rattle.vega_copies.specs.Scopes.{Names, names_at_top}
use Rattle.vl_spec.specs.declared.spec.VlSpec.{VlSpec}
use Rattle.plan_kit.specs.declared.plans.UnitPlan.{UnitPlan}
use Rattle.chart_plan.specs.Plan.{plan_of}
use Rattle.chart_meaning.specs.Parameters.{values_in}
use Rattle.chart_meaning.specs.Parts.{Copy, whole_copy}
use Rattle.chart_meaning.specs.Rows.{rows_begun, unit_rows}
use Rattle.vega_assemble.specs.Assembled.{is_begun}
use Rattle.vega_assemble.specs.Names.{unit_name, begun_name}
use Rattle.compiled_rows.specs.Lists.{HasFewUnits, HasSources, other_lists, stem_of, units_begun, units_scope}
use Rattle.compiled_rows.specs.Lost.{StepTestsNoLost}
use Rattle.compiled_rows.specs.Steps.{IsNull}
use Rattle.compiled_rows.specs.Values.{StoresAreApart, top_written}

-- what no store that a unit's steps test is: a lost parameter
abbrev pub UnitTestsNoLost : Values → UnitPlan → Type 0
UnitTestsNoLost values u = All (StepTestsNoLost values) (u.before ++ u.after)

-- What is asked of a state of a specification for its compiled form to read the same rows.
pub record HasTop (s : VlSpec) (st : State) : Type 0 where
  pub apart : StoresAreApart (stem_of s) s.params st
  pub sources : HasSources st.sources s
  pub null : IsNull (values_in s.params st) (stem_of s)
  pub tests : All (UnitTestsNoLost (values_in s.params st)) (plan_of s).units
  pub few : HasFewUnits s

-- what names stand for at the top of the compiled specification
abbrev pub names_of_top : VlSpec → State → Option Names
names_of_top s st = names_at_top (values_of_stores st.stores) st.params st.sources (top_written (stem_of s) s (plan_of s))

-- what names stand for behind data sets that are read in a scope
abbrev pub names_behind : Values → List Dataset → Scope → List DataSet → Option Names
names_behind values sources scope sets =
    if list_any (set_lacks values) sets then None else option_map (λ lists. record { lists = lists; values = values }) (lists_of values sources scope sets)

-- the same where units have such rows
abbrev pub names_over_units : VlSpec → State → List (List Datum) → List (List Datum) → Option Names
names_over_units s st rows begun =
    names_behind (values_in s.params st) st.sources (units_scope (stem_of s) (plan_of s) st.sources rows begun) (other_lists (stem_of s) (plan_of s))

-- Names stand for what they stand for behind the other lists where all units have their rows, and those before the aggregate that something reads; where
-- one lacks them, or one of the other lists, for nothing.
abbrev pub TopIsUnitsAndOthers : Type 0
TopIsUnitsAndOthers = (s : VlSpec) (st : State) → HasTop s st
    → names_of_top s st ≡ (all_found (map (unit_rows (values_in s.params st) st.sources) (plan_of s).units) >>= λ rows.
    all_found (map (rows_begun (values_in s.params st) st.sources) (units_begun (plan_of s))) >>= λ begun. names_over_units s st rows begun)

-- Where names stand for lists, and the chart is a copy, expressions read what they read of the parameters, and the name of a unit stands for the rows that the
-- copy has of it, as does that of its rows before the aggregate where something reads them.
pub record IsLinked (s : VlSpec) (st : State) (names : Names) (copy : Copy) : Type 0 where
  pub values : names.values ≡ values_in s.params st
  pub rows : (k : ℕ) (u : UnitPlan) → slice_get (plan_of s).units k ≡ Some u → names.lists (unit_name (stem_of s) k) ≡ copy.rows k
  pub begun : (k : ℕ) (u : UnitPlan) → slice_get (plan_of s).units k ≡ Some u → is_begun (plan_of s) u ≡ true
      → names.lists (begun_name (stem_of s) k) ≡ copy.begun k

abbrev pub TopIsLinked : Type 0
TopIsLinked = (s : VlSpec) (st : State) → HasTop s st → (names : Names) → names_of_top s st ≡ Some names
    → (copy : Copy) → whole_copy (values_in s.params st) st.sources (plan_of s) ≡ Some copy → IsLinked s st names copy
