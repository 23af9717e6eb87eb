-- Why the state in which a form opens is one of its Vega specification.
use Rattle.std.proofs.Common.{◌≡◌, ◌≢◌, ℕ, suc, ◌+◌, ◌<◌, ◌≤◌, List, [], ◌∷◌, length, map, arith, refl, sym, ap, subst}
use Rattle.std.specs.List.{All, AllPairs}
use Rattle.std.proofs.lemmas.List.{append-nil}
use Rattle.std.proofs.lemmas.List.Elements.{All-nil, All-cons}
use Rattle.std.proofs.lemmas.List.Kept.{AllPairs-cons}
use Rattle.cell_value.specs.Datum.{Datum, datum_of}
use Rattle.cell_value.specs.State.{Dataset, state_of, ids_of, all_rows, ReadsItsId}
use Rattle.vega_spec.specs.Names.{parameter_of, signals_of}
use Rattle.param_flow.specs.States.{settable_names}
use Rattle.selection_events.specs.Kept.{AreStoresOf}
use Rattle.vega_selections.specs.Plots.{plots_of}
use Rattle.vega_events.specs.Laws.{plain_of}
use Rattle.vega_meaning.specs.Semantics.{param_of}
use Rattle.vega_meaning.specs.Times.{temporal_of}
use Rattle.first_form.specs.declared.form.Value.{Value}
use Rattle.first_form.specs.Bars.{with_ids}
use Rattle.first_form.specs.Opening.{value_row, bars_of, opening_of}
use Rattle.first_form.proofs.BarCharts.{opened_group, named_sources, no_selections}
use Rattle.first_form.specs.Laws.{OpeningIsState}

module _ (x y : List ℕ) where
  abbrev rows_from : ℕ → List Value → List Datum
  rows_from id values = map datum_of (map (value_row x y) (with_ids id values))

  ids_read : (id : ℕ) (values : List Value) → All ReadsItsId (rows_from id values)
  ids_read id [] = All-nil ReadsItsId
  ids_read id (v ∷ vs) = All-cons ReadsItsId (datum_of (value_row x y (id, v))) (rows_from (suc id) vs) refl (ids_read (suc id) vs)

  no_branch : (id : ℕ) (values : List Value) → All (λ (d : Datum). d.key.branch ≡ 0) (rows_from id values)
  no_branch id [] = All-nil (λ (d : Datum). d.key.branch ≡ 0)
  no_branch id (v ∷ vs) =
      All-cons (λ (d : Datum). d.key.branch ≡ 0) (datum_of (value_row x y (id, v))) (rows_from (suc id) vs) refl (no_branch (suc id) vs)

  above : (a id : ℕ) (values : List Value) → a < id → All (λ b. a < b) (ids_of (rows_from id values))
  above a id [] h = All-nil (λ b. a < b)
  above a id (v ∷ vs) h = All-cons (λ b. a < b) id (ids_of (rows_from (suc id) vs)) h (above a (suc id) vs (omega arith))

  below : (n id : ℕ) (values : List Value) → id + length values ≤ n → All (λ b. b < n) (ids_of (rows_from id values))
  below n id [] h = All-nil (λ b. b < n)
  below n id (v ∷ vs) h = All-cons (λ b. b < n) id (ids_of (rows_from (suc id) vs)) (omega arith) (below n (suc id) vs (omega arith))

  rise : (id : ℕ) (values : List Value) → AllPairs (λ a b. a < b) (ids_of (rows_from id values))
  rise id [] = λ i j d before within. absurd (omega arith)
  rise id (v ∷ vs) =
      AllPairs-cons (λ a b. a < b) id (ids_of (rows_from (suc id) vs)) (above id (suc id) vs (omega arith)) (rise (suc id) vs)

  as_many : (id : ℕ) (values : List Value) → length (rows_from id values) ≡ length values
  as_many id [] = refl
  as_many id (v ∷ vs) = ap suc (as_many (suc id) vs)

pub is_state_of : OpeningIsState
is_state_of form drawable =
    let few = drawable.few in
    let rows = rows_from form.x form.y 1 form.values in
    let all : all_rows (state_of (opening_of form)) ≡ rows = append-nil rows in
    let up = rise form.x form.y 1 form.values in
    let long = as_many form.x form.y 1 form.values in
    let IdsRise : Dataset → Type 0 = λ source. AllPairs (λ a b. a < b) (ids_of source.rows) in
    record {
      is = record {
        ids_read = subst (All ReadsItsId) (sym all) (ids_read form.x form.y 1 form.values);
        no_branch = subst (All (λ (d : Datum). d.key.branch ≡ 0)) (sym all) (no_branch form.x form.y 1 form.values);
        ids_rise = All-cons IdsRise (record { name = form.name; rows = rows }) [] up (All-nil IdsRise);
        ids_distinct = subst (λ rows. AllPairs (λ a b. a ≢ b) (ids_of rows)) (sym all)
            (λ i j d before within e. let less = up i j d before within in omega (arith, less, e));
        ids_below_next = subst (λ rows. All (λ id. id < length form.values + 1) (ids_of rows)) (sym all)
            (below form.x form.y (length form.values + 1) 1 form.values (omega arith));
        next_id_from = omega arith;
        next_id_to = omega arith;
        few_rows = let count = ap length all in omega (arith, count, long);
      };
      sources = sym (named_sources form);
      params = ap (λ top. settable_names (map param_of (map parameter_of (signals_of top)))) (sym (opened_group form));
      stores = subst (λ selections. AreStoresOf (temporal_of (bars_of form)) (plots_of (bars_of form)) (map plain_of selections) [])
          (sym (no_selections form)) tt;
    }
