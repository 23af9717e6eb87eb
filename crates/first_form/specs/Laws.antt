-- What holds of each chart of the first form.
use Rattle.std.specs.Prelude.{◌≡◌, ℕ, Ok, List, [], map}
use Rattle.json_exact.specs.declared.json.Json.{Json}
use Rattle.cell_value.specs.declared.state.Keyed.{Keyed}
use Rattle.cell_value.specs.State.{state_of}
use Rattle.data_rows.specs.JsonRows.{rows_of_json}
use Rattle.scene_tree.specs.Outcome.{Drawn}
use Rattle.vega_copies.specs.Tested.{KeepsRules}
use Rattle.vega_selections.specs.Kept.{KeepsSelections}
use Rattle.vega_meaning.specs.Charts.{vega_chart_of}
use Rattle.vega_meaning.specs.States.{IsStateOf}
use Rattle.first_form.specs.declared.form.FirstForm.{FirstForm}
use Rattle.first_form.specs.FirstForm.{IsFirstForm}
use Rattle.first_form.specs.Bars.{with_ids, chart_of}
use Rattle.first_form.specs.Opening.{values_of, value_row, bars_of, opening_of}
use Rattle.first_form.specs.Drawable.{IsDrawable}

-- a form that is read can be drawn
abbrev pub FormsAreDrawable : Type 0
FormsAreDrawable = (tree : Json) (form : FirstForm) → IsFirstForm tree form → IsDrawable form

-- the Vega chart of a form in its opening state is the chart of the form
abbrev pub VegaChartIsTheChart : Type 0
VegaChartIsTheChart = (form : FirstForm) → IsDrawable form → vega_chart_of (bars_of form) (state_of (opening_of form)) ≡ chart_of form

-- a form that can be drawn has a chart
abbrev pub ChartsAreDrawn : Type 0
ChartsAreDrawn = (form : FirstForm) → IsDrawable form → (text : List ℕ) × (chart_of form ≡ Drawn text)

-- its opening state is one of its Vega specification
abbrev pub OpeningIsState : Type 0
OpeningIsState = (form : FirstForm) → IsDrawable form → IsStateOf (bars_of form) (state_of (opening_of form))

-- its Vega specification keeps the rules of charts and of selections
abbrev pub BarsKeepRules : Type 0
BarsKeepRules = (form : FirstForm) → KeepsRules (bars_of form) × KeepsSelections (bars_of form)

-- the values that its Vega specification has, read as rows, are those of its opening state
abbrev pub ValuesAreRows : Type 0
ValuesAreRows = (form : FirstForm)
    → rows_of_json [] (values_of form) ≡ Ok (map (λ (keyed : Keyed). keyed.row) (map (value_row form.x form.y) (with_ids 1 form.values)))
