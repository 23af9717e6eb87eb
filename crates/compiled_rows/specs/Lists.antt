-- The data sets of a compiled specification, read one after the other, leave for each unit the rows that its steps make of its source. What is out of range on
-- one side is so on the other: all that stands here are equations.
use Rattle.std.specs.Prelude.{◌≡◌, ℕ, suc, ◌+◌, ◌^◌, ◌<◌, ◌≤◌, true, Option, Some, List, [], ◌∷◌, ◌++◌, map, flat_map, filter, length, slice_get, All, IfSome}
use Rattle.std.specs.List.{enumerate_from}
use Rattle.fixed_num.specs.Ranges.{◌>>=◌, all_found}
use Rattle.cell_value.specs.Datum.{Datum}
use Rattle.cell_value.specs.State.{Dataset}
use Rattle.expr_eval.specs.Values.{Values}
use Rattle.vega_spec.specs.declared.data.DataSet.{DataSet}
use Rattle.vl_spec.specs.declared.sources.SourceOf.{SourceOf}
use Rattle.vl_spec.specs.declared.spec.VlSpec.{VlSpec}
use Rattle.vl_normalize.specs.Normal.{normal_form}
use Rattle.vl_compose.specs.Rounds.{rounds_of}
use Rattle.plan_kit.specs.declared.plans.UnitPlan.{UnitPlan}
use Rattle.plan_kit.specs.declared.steps.Step.{Step}
use Rattle.plan_kit.specs.declared.domains.DomainPlan.{DomainPlan}
use Rattle.plan_kit.specs.declared.domains.DomainPlan.TheVariants as domain
use Rattle.plan_kit.specs.declared.domains.RowCells.{RowCells}
use Rattle.plan_kit.specs.declared.grids.FacetPlan.{FacetPlan}
use Rattle.plan_kit.specs.declared.grids.GridPlan.{GridPlan}
use Rattle.plan_kit.specs.declared.orders.CellOrder.{CellOrder}
use Rattle.plan_kit.specs.declared.orders.CellOrder.TheVariants as stands
use Rattle.plan_kit.specs.declared.scales.ScalePlan.{ScalePlan}
use Rattle.plan_kit.specs.declared.plan.Plan.{Plan}
use Rattle.chart_plan.specs.Plan.{plan_of}
use Rattle.vega_lists.specs.Lists.{list_of, lists_of}
use Rattle.vega_lists.specs.Scopes.{Scope, no_lists, with_list, list_named}
use Rattle.vega_assemble.specs.Assembled.{is_begun, sets_of}
use Rattle.vega_assemble.specs.Drags.{all_outer}
use Rattle.vega_assemble.specs.Keys.{lists_of_grid}
use Rattle.vega_assemble.specs.Lists.{lists_for_scale, names_held}
use Rattle.vega_assemble.specs.Mentioned.{mentioned}
use Rattle.vega_assemble.specs.Names.{stem_for, unit_name, begun_name}
use Rattle.chart_meaning.specs.Rows.{rows_named, all_stepped}
use Rattle.compiled_rows.specs.Names.{IsPlace}
use Rattle.compiled_rows.specs.Steps.{IsNull}

-- ---- the rows of units

-- what steps leave of the rows of a source; what they mention isn't looked at
abbrev pub rows_left : Values → List Dataset → List ℕ → List Step → Option (List Datum)
rows_left values sources source steps = all_stepped values sources steps (rows_named sources source)

-- the rows of a unit, and those before its aggregate
abbrev pub unit_left : Values → List Dataset → UnitPlan → Option (List Datum)
unit_left values sources u = rows_left values sources u.source (u.before ++ u.after)

abbrev pub begun_left : Values → List Dataset → UnitPlan → Option (List Datum)
begun_left values sources u = rows_left values sources u.source u.before

-- those of all units, and of those whose rows before the aggregate something reads
abbrev pub all_left : Values → List Dataset → Plan → Option (List (List Datum))
all_left values sources p = all_found (map (unit_left values sources) p.units)

abbrev pub units_begun : Plan → List UnitPlan
units_begun p = filter (is_begun p) p.units

abbrev pub all_begun : Values → List Dataset → Plan → Option (List (List Datum))
all_begun values sources p = all_found (map (begun_left values sources) (units_begun p))

-- ---- scopes

-- the scope with lists under names, the later in place of the earlier
abbrev pub with_all : List (List ℕ) → List (List Datum) → Scope → Scope
with_all [] lists scope = scope
with_all (name ∷ names) [] scope = scope
with_all (name ∷ names) (rows ∷ lists) scope = with_all names lists (with_list name rows scope)

-- the names of the lists of units
abbrev pub unit_names : List ℕ → List UnitPlan → List (List ℕ)
unit_names stem units = map (λ (u : UnitPlan). unit_name stem u.number) units

abbrev pub begun_names : List ℕ → List UnitPlan → List (List ℕ)
begun_names stem units = map (λ (u : UnitPlan). begun_name stem u.number) units

-- what names stand for behind the lists of units: their rows, and the rows of the sources
abbrev pub units_scope : List ℕ → Plan → List Dataset → List (List Datum) → List (List Datum) → Scope
units_scope stem p sources rows begun =
    with_all (begun_names stem (units_begun p)) begun (with_all (unit_names stem p.units) rows (list_named sources))

-- ---- the data sets behind them

abbrev pub scale_lists : List ℕ → Plan → List DataSet
scale_lists stem p = flat_map (lists_for_scale stem p.grids) (enumerate_from 0 p.scales)

abbrev pub grid_lists : List ℕ → Plan → List DataSet
grid_lists stem p = flat_map (lists_of_grid stem) p.grids

abbrev pub drag_lists : List ℕ → Plan → List DataSet
drag_lists stem p = all_outer stem p.selections p.scales

-- what domains, facets and drags read besides
abbrev pub other_lists : List ℕ → Plan → List DataSet
other_lists stem p = scale_lists stem p ++ (grid_lists stem p ++ drag_lists stem p)

-- ---- premises

-- The sources of a state are those of a specification: a state of the specification has them.
abbrev pub HasSources : List Dataset → VlSpec → Type 0
HasSources sources s = map (λ (source : Dataset). source.name) sources ≡ map (λ (source : SourceOf). source.name) s.sources

-- the stem of a specification's names
abbrev pub stem_of : VlSpec → List ℕ
stem_of s = stem_for (mentioned s (plan_of s))

-- the numbers of units are numbers of 64 bits, as a specification that breaks no rule has at most 32
abbrev pub HasFewUnits : VlSpec → Type 0
HasFewUnits s = All (λ (u : UnitPlan). IsPlace u.number) (plan_of s).units

-- ---- the laws

-- The numbers of units are their places.
abbrev pub UnitsAreNumbered : Type 0
UnitsAreNumbered = (s : VlSpec) (k : ℕ) (u : UnitPlan) → slice_get (plan_of s).units k ≡ Some u → u.number ≡ k

-- Reading the data sets is finding the rows of all units, then those before the aggregate that something reads, and then reading the other data sets.
abbrev pub UnitsComeFirst : Type 0
UnitsComeFirst = (s : VlSpec) (values : Values) (sources : List Dataset) → HasSources sources s → HasFewUnits s → IsNull values (stem_of s)
    → lists_of values sources no_lists (sets_of (stem_of s) s (plan_of s))
    ≡ (all_left values sources (plan_of s) >>= λ rows. all_begun values sources (plan_of s) >>= λ begun.
    lists_of values sources (units_scope (stem_of s) (plan_of s) sources rows begun) (other_lists (stem_of s) (plan_of s)))

-- what names stand for where all data sets are read
abbrev pub IsRead : VlSpec → Values → List Dataset → Scope → Type 0
IsRead s values sources scope = lists_of values sources no_lists (sets_of (stem_of s) s (plan_of s)) ≡ Some scope

-- The name of a unit stands for the rows of the unit.
abbrev pub UnitsStand : Type 0
UnitsStand = (s : VlSpec) (values : Values) (sources : List Dataset) → HasSources sources s → HasFewUnits s → IsNull values (stem_of s)
    → (scope : Scope) → IsRead s values sources scope → (k : ℕ) (u : UnitPlan) → slice_get (plan_of s).units k ≡ Some u
    → unit_left values sources u ≡ Some (scope (unit_name (stem_of s) k))

-- So does that of its rows before the aggregate, where something reads them.
abbrev pub BegunStand : Type 0
BegunStand = (s : VlSpec) (values : Values) (sources : List Dataset) → HasSources sources s → HasFewUnits s → IsNull values (stem_of s)
    → (scope : Scope) → IsRead s values sources scope → (k : ℕ) (u : UnitPlan) → slice_get (plan_of s).units k ≡ Some u → is_begun (plan_of s) u ≡ true
    → begun_left values sources u ≡ Some (scope (begun_name (stem_of s) k))

-- Then the rows of a unit are what its further steps leave of these.
abbrev pub BegunGoOn : Type 0
BegunGoOn = (s : VlSpec) (values : Values) (sources : List Dataset) → HasSources sources s → HasFewUnits s → IsNull values (stem_of s)
    → (scope : Scope) → IsRead s values sources scope → (k : ℕ) (u : UnitPlan) → slice_get (plan_of s).units k ≡ Some u → is_begun (plan_of s) u ≡ true
    → all_stepped values sources u.after (scope (begun_name (stem_of s) k)) ≡ Some (scope (unit_name (stem_of s) k))

-- ---- the other lists

-- how many fields tell rows apart in an order by rows: those of the facets round a unit up to the holder of a scale, and the cell
abbrev pub telling : Plan → Option ℕ → CellOrder → ℕ
telling p holder stands.First = 0
telling p holder stands.Up = 0
telling p holder stands.Down = 0
telling p holder (stands.Listed cells) = 0
telling p holder (stands.ByRows by) = length (names_held p.grids by.unit holder) + 1

-- these, and the columns of a domain, have numbers of 64 bits as their places
pub record HasFewColumns (p : Plan) (holder : Option ℕ) (of : RowCells) : Type 0 where
  pub columns : length of.columns < 2 ^ 64
  pub told : telling p holder of.order < 2 ^ 64

abbrev pub IsSmallDomain : Plan → Option ℕ → DomainPlan → Type 0
IsSmallDomain p holder (domain.Cells cells) = Unit {0}
IsSmallDomain p holder (domain.Columns of) = HasFewColumns p holder of

abbrev pub IsSmallScale : Plan → ScalePlan → Type 0
IsSmallScale p s = IsSmallDomain p s.holder s.domain

-- numbers of 64 bits that rise, from one on
abbrev pub Rises : ℕ → List ℕ → Type 0
Rises least [] = Unit {0}
Rises least (n ∷ ns) = least ≤ n × IsPlace n × Rises (suc n) ns

-- the fields of a facet have numbers of 64 bits as their places, and those of the units below it rise
pub record IsSmallFacet (f : FacetPlan) : Type 0 where
  pub fields : length f.fields < 2 ^ 64
  pub units : Rises 0 f.units

abbrev pub IsSmallGrid : GridPlan → Type 0
IsSmallGrid grid = IfSome grid.facet IsSmallFacet

-- What a plan keeps where the names of all its lists differ, as one does that a machine holds.
pub record IsSmallPlan (p : Plan) : Type 0 where
  pub scales : length p.scales < 2 ^ 64
  pub each : All (IsSmallScale p) p.scales
  pub grids : All IsSmallGrid p.grids
  pub numbers : Rises 0 (map (λ (grid : GridPlan). grid.number) p.grids)

-- The name of each list besides stands for what its transforms make of the rows with which it begins, where names stand for what they do in the end.
abbrev pub OthersStand : Type 0
OthersStand = (s : VlSpec) (values : Values) (sources : List Dataset) → HasSources sources s → HasFewUnits s → IsNull values (stem_of s)
    → IsSmallPlan (plan_of s) → (scope : Scope) → IsRead s values sources scope
    → All (λ (set : DataSet). list_of values sources scope set ≡ Some (scope set.name)) (other_lists (stem_of s) (plan_of s))

-- The numbers of the units below a facet rise.
abbrev pub FacetUnitsRise : Type 0
FacetUnitsRise = (s : VlSpec) → HasFewUnits s → All (λ (grid : GridPlan). IfSome grid.facet (λ (f : FacetPlan). Rises 0 f.units)) (plan_of s).grids

-- So do those of all grids, where there are no more views than numbers of 64 bits.
abbrev pub GridNumbersRise : Type 0
GridNumbersRise = (s : VlSpec) → length (rounds_of (normal_form s)) ≤ 2 ^ 64 → Rises 0 (map (λ (grid : GridPlan). grid.number) (plan_of s).grids)

-- No more views than that have units with such numbers alone.
abbrev pub FewViewsHaveFewUnits : Type 0
FewViewsHaveFewUnits = (s : VlSpec) → length (rounds_of (normal_form s)) ≤ 2 ^ 64 → HasFewUnits s

-- What each specification keeps that a machine holds: numbers of 64 bits for its views, and as the places of scales, columns and fields.
pub record HasFewParts (s : VlSpec) : Type 0 where
  pub views : length (rounds_of (normal_form s)) ≤ 2 ^ 64
  pub scales : length (plan_of s).scales < 2 ^ 64
  pub each : All (IsSmallScale (plan_of s)) (plan_of s).scales
  pub fields : All (λ (grid : GridPlan). IfSome grid.facet (λ (f : FacetPlan). length f.fields < 2 ^ 64)) (plan_of s).grids

-- Then the names of all lists of its plan differ.
abbrev pub PlansAreSmall : Type 0
PlansAreSmall = (s : VlSpec) → HasFewParts s → IsSmallPlan (plan_of s)
