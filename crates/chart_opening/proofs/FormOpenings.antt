-- How a chart of the first form opens.
use Rattle.std.proofs.Common.{◌≡◌, ◌≤◌, ◌+◌, ℕ, suc, List, [], ◌∷◌, ◌++◌, map, length, zip, Result, Ok, Err, refl, ap, ◌∙◌, arith, nat_le}
use Rattle.std.proofs.Common.{if◌then◌else◌}
use Rattle.std.proofs.lemmas.Bool.Decides.{nat_tests}
use Rattle.std.specs.Result.{result_map_both}
use Rattle.fixed_num.specs.Steps.{◌>>=◌}
use Rattle.cell_value.specs.Row.{Cells}
use Rattle.cell_value.specs.declared.state.ChartState.{ChartState}
use Rattle.cell_value.specs.declared.state.Keyed.{Keyed}
use Rattle.cell_value.specs.declared.state.Named.{Named}
use Rattle.data_rows.specs.Outcome.{Bad}
use Rattle.vega_spec.specs.declared.data.DataSet.{DataSet}
use Rattle.vega_spec.specs.declared.spec.Group.{fold-roll-Group}
use Rattle.vega_spec.specs.declared.spec.VgMark.{fold-roll-VgMark}
use Rattle.vega_spec.specs.Names.{signals_of}
use Rattle.first_form.specs.declared.form.FirstForm.{FirstForm}
use Rattle.first_form.specs.declared.form.Value.{Value}
use Rattle.first_form.specs.Bars.{with_ids}
use Rattle.first_form.specs.Opening.{no_parts, mark_parts, bars_mark, bars_parts, bars_of, data_set_of, values_of, value_row, opening_of}
use Rattle.first_form.proofs.BarCharts.{opened_group, no_selections}
use Rattle.first_form.proofs.ValueRows.{values_are_rows}
use Rattle.chart_opening.specs.declared.refusal.Refusal.{Refusal}
use Rattle.chart_opening.specs.declared.refusal.Refusal.TheVariants as refusal
use Rattle.chart_opening.specs.Laws.{FormsOpen}
use Rattle.chart_opening.specs.Opening as opening
use Rattle.chart_opening.specs.Opening.{keyed_rows, sources_from, first_store, count_rows, state_with, state_within, state_given}
use Rattle.chart_opening.specs.Sources.{Nothing, sets_here, mark_sets_here, mark_sets, source_sets, given_by, rows_by, all_of}

-- the one source
one_set : (form : FirstForm) → source_sets (bars_of form) ≡ data_set_of form ∷ []
one_set form =
    fold-roll-Group (List DataSet) (List DataSet) sets_here mark_sets_here (bars_parts form)
    ∙ ap (λ sets. (data_set_of form ∷ []) ++ (sets ++ [])) mark_none
  where
    mark_none : mark_sets (bars_mark form) ≡ []
    mark_none =
        fold-roll-VgMark (List DataSet) (List DataSet) sets_here mark_sets_here (mark_parts form)
        ∙ fold-roll-Group (List DataSet) (List DataSet) sets_here mark_sets_here no_parts

-- the rows of its values
abbrev rows_from : List ℕ → List ℕ → ℕ → List Value → List Cells
rows_from x y id values = map (λ (keyed : Keyed). keyed.row) (map (value_row x y) (with_ids id values))

keyed_again : (x y : List ℕ) (id : ℕ) (values : List Value) → keyed_rows id (rows_from x y id values) ≡ map (value_row x y) (with_ids id values)
keyed_again x y id [] = refl
keyed_again x y id (v ∷ values) = ap (λ (rows : List Keyed). value_row x y (id, v) ∷ rows) (keyed_again x y (suc id) values)

as_many : (x y : List ℕ) (id : ℕ) (values : List Value) → length (rows_from x y id values) ≡ length values
as_many x y id [] = refl
as_many x y id (v ∷ values) = ap suc (as_many x y (suc id) values)

few_rows : (count : ℕ) (state : ChartState) → count ≤ 200000
    → ◌≡◌ {A = Result ChartState Refusal} (if nat_le count 200000 then Ok state else Err refusal.Rows) (Ok state)
few_rows count state few = grind (arith, nat_tests)

-- one source of this name
abbrev one_source : List ℕ → List Keyed → List Named
one_source name keyed = record { name = name; rows = keyed } ∷ []

module _ (form : FirstForm) where
  abbrev rows : List Cells
  rows = rows_from form.x form.y 1 form.values

  rows_read : all_of (map rows_by ((data_set_of form, Nothing) ∷ [])) ≡ Ok (rows ∷ [])
  rows_read =
      ap (λ (r : Result (List Cells) Bad). all_of (result_map_both (λ xs. xs) (λ (bad : Bad). refusal.Row form.name bad.0 bad.1) r ∷ []))
      (values_are_rows form)

  counted : count_rows (rows ∷ []) ≡ length form.values
  counted = let long = as_many form.x form.y 1 form.values in omega (arith, long)

  sources : sources_from 1 (zip (source_sets (bars_of form)) (rows ∷ []))
      ≡ one_source form.name (map (value_row form.x form.y) (with_ids 1 form.values))
  sources =
      ap (λ sets. sources_from 1 (zip sets (rows ∷ []))) (one_set form)
      ∙ ap (one_source form.name) (keyed_again form.x form.y 1 form.values)

  state_is : state_with (bars_of form) (rows ∷ []) ≡ opening_of form
  state_is = λ i. record {
    next_id = counted i + 1;
    sources = sources i;
    params = opening.values_of (signals_of (opened_group form i));
    stores = map first_store (no_selections form i);
  }

pub form_opens : FormsOpen
form_opens reading files form drawable =
    let g = bars_of form in
    let few = drawable.few in
    let count = counted form in
    ap (λ sets. all_of (map (given_by reading files) sets) >>= state_given g) (one_set form)
    ∙ ap (λ sets. all_of (map rows_by (zip sets (Nothing ∷ []))) >>= state_within g) (one_set form)
    ∙ ap (λ (r : Result (List (List Cells)) Refusal). r >>= state_within g) (rows_read form)
    ∙ few_rows (count_rows (rows form ∷ [])) (state_with g (rows form ∷ [])) (omega (arith, few, count))
    ∙ ap Ok (state_is form)
