-- What holds of each text of the first chart form, as a Vega-Lite specification.
use Rattle.std.specs.Prelude.{◌≡◌}
use Rattle.json_exact.specs.declared.json.Json.{Json}
use Rattle.cell_value.specs.State.{state_of}
use Rattle.vl_building.specs.Spec.{spec_of}
use Rattle.first_form.specs.declared.form.FirstForm.{FirstForm}
use Rattle.first_form.specs.FirstForm.{IsFirstForm}
use Rattle.first_form.specs.Bars.{chart_of as form_chart}
use Rattle.first_form.specs.Opening.{opening_of}
use Rattle.chart_meaning.specs.Charts.{chart_of}
use Rattle.chart_meaning.specs.FirstForms.{form_spec}
use Rattle.form_reading.specs.Texts.{y_stands_first, values_written}

-- What is of the first form says, as a Vega-Lite specification, the specification of its form.
abbrev pub TextsSayTheirForms : Type 0
TextsSayTheirForms = (tree : Json) (form : FirstForm) → IsFirstForm tree form
    → spec_of tree ≡ form_spec (y_stands_first tree) (values_written tree) form

-- The chart of a form, by its own definition, is that of the Vega-Lite specification which its text says, over the rows of its values.
abbrev pub TextsDrawTheirForms : Type 0
TextsDrawTheirForms = (tree : Json) (form : FirstForm) → IsFirstForm tree form → chart_of (spec_of tree) (state_of (opening_of form)) ≡ form_chart form
