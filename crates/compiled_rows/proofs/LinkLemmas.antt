-- The rows of units in the chart itself as a copy are those for which the names of units stand.
use Rattle.std.proofs.Common.{◌≡◌, sym, ap, ◌∙◌, ℕ, zero, suc, Bool, true, false, Option, Some, None, List, [], ◌∷◌, ◌++◌, map, slice_get, if◌then◌else◌}
use Rattle.fixed_num.specs.Ranges.{all_found}
use Rattle.cell_value.specs.Datum.{Datum}
use Rattle.cell_value.specs.State.{Dataset}
use Rattle.expr_eval.specs.Values.{Values}
use Rattle.plan_kit.specs.declared.steps.Step.{Step}
use Rattle.plan_kit.specs.declared.plan.Plan.{Plan}
use Rattle.chart_plan.specs.Plan.{plan_of}
use Rattle.vega_assemble.specs.Names.{unit_name, begun_name}
use Rattle.chart_meaning.specs.Parts.{Copy, copy_over, grid_cells, list_at, whole_copy}
use Rattle.chart_meaning.specs.Rows.{mention_lost, rows_after, rows_begun, unit_rows}
use Rattle.compiled_rows.specs.Lists.{begun_left, rows_left, stem_of, unit_left}
use Rattle.compiled_rows.specs.Links.{BegunAreLinked, RowsAreLinked}
use Rattle.compiled_rows.proofs.StandLemmas.{begun_stand, bound, found_of, no_value, same_value, units_stand}

-- ---- lists by their places

-- what was found of the element at a place stands there among all that was found
found_there : {X : Type 0} (f : X → Option (List Datum)) (xs : List X) (lists : List (List Datum)) → all_found (map f xs) ≡ Some lists
    → (k : ℕ) (x : X) → slice_get xs k ≡ Some x → f x ≡ Some (list_at lists k)
found_there f [] lists e k x at = absurd (no_value x at)
found_there f (y ∷ xs) lists e zero x at =
    let parts = found_of (f y) (all_found (map f xs)) lists e in
    ap f (sym (same_value y x at)) ∙ parts.2 ∙ ap (λ all. Some (list_at all 0)) parts.4
found_there f (y ∷ xs) lists e (suc k) x at =
    let parts = found_of (f y) (all_found (map f xs)) lists e in
    found_there f xs parts.1 parts.3 k x at ∙ ap (λ all. Some (list_at all (suc k))) parts.4

-- ---- lost parameters

-- rows that are there mention none
none_lost : (values : Values) (sources : List Dataset) (source : List ℕ) (steps : List Step) (rows : List Datum)
    → rows_after values sources source steps ≡ Some rows → rows_left values sources source steps ≡ Some rows
none_lost values sources source steps rows = by (mention_lost values steps)
  where
    by : (b : Bool) → (if b then None else rows_left values sources source steps) ≡ Some rows → rows_left values sources source steps ≡ Some rows
    by true e = absurd (no_value rows e)
    by false e = e

-- ---- the chart as a copy

pub record IsCopyOver (values : Values) (sources : List Dataset) (p : Plan) (copy : Copy) : Type 0 where
  pub rows : List (List Datum)
  pub begun : List (List Datum)
  pub rows_are : all_found (map (unit_rows values sources) p.units) ≡ Some rows
  pub begun_are : all_found (map (rows_begun values sources) p.units) ≡ Some begun
  pub is : copy_over rows begun ≡ copy

copy_known : (values : Values) (sources : List Dataset) (p : Plan) (copy : Copy) → whole_copy values sources p ≡ Some copy → IsCopyOver values sources p copy
copy_known values sources p copy e =
    let first = bound (all_found (map (unit_rows values sources) p.units)) _ copy e in
    let second = bound (all_found (map (rows_begun values sources) p.units)) _ copy first.2 in
    let third = bound (all_found (map (grid_cells (copy_over first.0 second.0)) p.grids)) _ copy second.2 in
    record { rows = first.0; begun = second.0; rows_are = first.1; begun_are = second.1; is = same_value (copy_over first.0 second.0) copy third.2 }

pub rows_are_linked : RowsAreLinked
rows_are_linked s values sources same few null scope read copy is k u at =
    let known = copy_known values sources (plan_of s) copy is in
    let there = found_there (unit_rows values sources) (plan_of s).units known.rows known.rows_are k u at in
    let left : unit_left values sources u ≡ Some (list_at known.rows k)
    = none_lost values sources u.source (u.before ++ u.after) (list_at known.rows k) there in
    same_value (scope (unit_name (stem_of s) k)) (list_at known.rows k) (sym (units_stand s values sources same few null scope read k u at) ∙ left)
    ∙ ap (λ (c : Copy). c.rows k) known.is

pub begun_are_linked : BegunAreLinked
begun_are_linked s values sources same few null scope read copy is k u at wanted =
    let known = copy_known values sources (plan_of s) copy is in
    let there = found_there (rows_begun values sources) (plan_of s).units known.begun known.begun_are k u at in
    let left : begun_left values sources u ≡ Some (list_at known.begun k) = none_lost values sources u.source u.before (list_at known.begun k) there in
    same_value (scope (begun_name (stem_of s) k)) (list_at known.begun k) (sym (begun_stand s values sources same few null scope read k u at wanted) ∙ left)
    ∙ ap (λ (c : Copy). c.begun k) known.is
