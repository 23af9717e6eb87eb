-- What holds of the meaning of Vega-Lite specifications.
use Rattle.std.specs.Prelude.{◌≡◌, Bool, Option}
use Rattle.json_exact.specs.declared.json.Json.{Json}
use Rattle.cell_value.specs.State.{State, state_of}
use Rattle.vl_spec.specs.declared.spec.VlSpec.{VlSpec}
use Rattle.param_flow.specs.Semantics.{chart_of as chart_meant}
use Rattle.first_form.specs.declared.form.FirstForm.{FirstForm}
use Rattle.first_form.specs.Bars.{chart_of as form_chart}
use Rattle.first_form.specs.Drawable.{IsDrawable}
use Rattle.first_form.specs.Opening.{opening_of}
use Rattle.chart_meaning.specs.Charts.{chart_of}
use Rattle.chart_meaning.specs.FirstForms.{form_spec}
use Rattle.chart_meaning.specs.Semantics.{chart_semantics}

-- what a meaning draws of a state, as its text, is the chart of the specification over it
abbrev pub MeaningDrawsTheChart : Type 0
MeaningDrawsTheChart = (s : VlSpec) (st : State) → chart_meant (chart_semantics s) st ≡ chart_of s st

-- The chart of a form that can be drawn, by the definition of that form alone, is that of its Vega-Lite specification over the rows of its values.
abbrev pub FirstFormIsSpecialCase : Type 0
FirstFormIsSpecialCase = (y_first : Bool) (values : Option Json) (form : FirstForm) → IsDrawable form
    → chart_of (form_spec y_first values form) (state_of (opening_of form)) ≡ form_chart form
