-- Why the states of a chart give values to its parameters.
use Rattle.std.proofs.Common.{◌≡◌, ⊎_elim, ℕ, ◌+◌, Bool, true, false, cond, List, [], ◌∷◌, map, filter, refl, ap, ap₂, ◌∙◌}
use Rattle.std.specs.Prelude.{filter_map}
use Rattle.std.specs.List.{AllZip, cons_option, enumerate_from}
use Rattle.cell_value.specs.declared.state.StoreOf.{StoreOf}
use Rattle.vl_spec.specs.declared.params.ParamKind.{ParamKind}
use Rattle.vl_spec.specs.declared.params.ParamKind.TheVariants as kind
use Rattle.vl_spec.specs.declared.params.ParamOf.{ParamOf}
use Rattle.vl_compose.specs.Units.{UnitAt, units_of}
use Rattle.selection_events.specs.declared.selection.PlotOf.{PlotOf}
use Rattle.selection_events.specs.declared.selection.SelectionOf.{SelectionOf}
use Rattle.selection_events.specs.Kept.{Temporal, IsStoreOf}
use Rattle.param_flow.specs.Semantics.{ParamOf as MeantParam, is_settable}
use Rattle.plan_kit.specs.declared.plots.PlotPlan.{PlotPlan}
use Rattle.plan_kit.specs.declared.scales.ScalePlan.{ScalePlan}
use Rattle.plan_kit.specs.declared.selections.SelectionPlan.{SelectionPlan}
use Rattle.chart_plan.specs.Selections.{plan_by, plan_if}
use Rattle.chart_plan.specs.Plan.{all_scales}
use Rattle.chart_plan.specs.Plots.{plots_of}
use Rattle.vl_normalize.specs.Normal.{normal_form}
use Rattle.chart_meaning.specs.Semantics.{chart_semantics, kind_meant, param_meant}
use Rattle.compiled_rows.specs.Values.{name_of, is_set, is_selection, can_be_set, selects}
use Rattle.compiled_rows.specs.States.{ChartStatesAreOfParams}

-- ---- those that can be set

set_alike : (k : ParamKind) → is_settable (kind_meant k) ≡ is_set k
set_alike (kind.Value c) = refl
set_alike (kind.Expr e) = refl
set_alike (kind.Select s) = refl

name_meant : MeantParam → List ℕ
name_meant p = p.name

one_alike : (b : Bool) (p : ParamOf) (rest : List MeantParam) (more : List ParamOf) → map (λ (q : MeantParam). q.name) rest ≡ map name_of more
    → map (λ (q : MeantParam). q.name) (cond b (param_meant p ∷ rest) rest) ≡ map name_of (cond b (p ∷ more) more)
one_alike true p rest more e = ap (λ l. p.name ∷ l) e
one_alike false p rest more e = e

settable_are : (params : List ParamOf)
    → map (λ (q : MeantParam). q.name) (filter (λ (q : MeantParam). is_settable q.kind) (map param_meant params)) ≡ map name_of (filter can_be_set params)
settable_are [] = refl
settable_are (p ∷ params) =
    ap (λ b. map (λ (q : MeantParam). q.name) (cond b (param_meant p ∷ rest) rest)) (set_alike p.kind)
    ∙ one_alike (is_set p.kind) p rest (filter can_be_set params) (settable_are params)
  where
    rest : List MeantParam
    rest = filter (λ (q : MeantParam). is_settable q.kind) (map param_meant params)

-- ---- stores

store_of : (temporal : Temporal) (plots : List PlotOf) (s : SelectionOf) (store : StoreOf) → IsStoreOf temporal plots s store → store.name ≡ s.name
store_of temporal plots s store h = ⊎_elim (λ is. ap (λ (x : StoreOf). x.name) is) (λ held. held.2.name) h

names_zip : (temporal : Temporal) (plots : List PlotOf) (selections : List SelectionOf) (stores : List StoreOf)
    → AllZip (IsStoreOf temporal plots) selections stores → map (λ (store : StoreOf). store.name) stores ≡ map (λ (s : SelectionOf). s.name) selections
names_zip temporal plots [] [] h = refl
names_zip temporal plots [] (store ∷ stores) h = absurd h
names_zip temporal plots (s ∷ selections) [] h = absurd h
names_zip temporal plots (s ∷ selections) (store ∷ stores) h =
    ap₂ (λ n ns. n ∷ ns) (store_of temporal plots s store h.0) (names_zip temporal plots selections stores h.1)

kept_of : SelectionPlan → SelectionOf
kept_of s = s.kept

module _ (units : List UnitAt) (scales : List ScalePlan) (plots : List PlotPlan) where
  abbrev names_planned : List SelectionPlan → List (List ℕ)
  names_planned planned = map (λ (s : SelectionOf). s.name) (map (λ (s : SelectionPlan). s.kept) planned)

  one_planned : (number : ℕ) (p : ParamOf) (k : ParamKind) (rest : List SelectionPlan) (more : List ParamOf) → names_planned rest ≡ map name_of more
      → names_planned (cons_option (plan_by units scales plots number p.name k) rest) ≡ map name_of (cond (is_selection k) (p ∷ more) more)
  one_planned number p (kind.Value c) rest more e = e
  one_planned number p (kind.Expr x) rest more e = e
  one_planned number p (kind.Select s) rest more e = ap (λ l. p.name ∷ l) e

  planned_are : (number : ℕ) (params : List ParamOf)
      → names_planned (filter_map (plan_if units scales plots) (enumerate_from number params)) ≡ map name_of (filter selects params)
  planned_are number [] = refl
  planned_are number (p ∷ params) =
      one_planned number p p.kind (filter_map (plan_if units scales plots) (enumerate_from (number + 1) params)) (filter selects params)
      (planned_are (number + 1) params)

pub chart_states_are_of_params : ChartStatesAreOfParams
chart_states_are_of_params s st h =
    let normal = normal_form s in
    let units = units_of normal in
    let scales = all_scales normal units in
    let meaning = chart_semantics s in
    record {
      given = h.params ∙ settable_are s.params;
      stores = names_zip meaning.temporal meaning.plots meaning.selections st.stores h.stores
          ∙ planned_are units scales (plots_of normal.config scales units) 0 s.params;
    }
