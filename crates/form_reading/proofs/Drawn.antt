-- Why the chart of a text of the first form is that of its form.
use Rattle.std.proofs.Common.{ap, ◌∙◌}
use Rattle.cell_value.specs.State.{state_of}
use Rattle.vl_spec.specs.declared.spec.VlSpec.{VlSpec}
use Rattle.first_form.specs.Laws.{FormsAreDrawable}
use Rattle.first_form.specs.Opening.{opening_of}
use Rattle.chart_meaning.specs.Charts.{chart_of}
use Rattle.chart_meaning.specs.Laws.{FirstFormIsSpecialCase}
use Rattle.form_reading.specs.Laws.{TextsSayTheirForms, TextsDrawTheirForms}
use Rattle.form_reading.specs.Texts.{y_stands_first, values_written}

pub texts_draw_their_forms : TextsSayTheirForms → FormsAreDrawable → FirstFormIsSpecialCase → TextsDrawTheirForms
texts_draw_their_forms say drawable special tree form is =
    ap (λ (s : VlSpec). chart_of s (state_of (opening_of form))) (say tree form is)
    ∙ special (y_stands_first tree) (values_written tree) form (drawable tree form is)
