use Rattle.time_calc.specs.Forms.{instant_form}
use Rattle.time_calc.specs.inner.Forms.{first_fit}
use Rattle.time_calc.proofs.FormLemmas.{forms_are_short}
use Rattle.time_calc.proofs.forms.form_of.Goals as goal

pub returns : goal.returns
unfolding instant_form first_fit
returns c = record { value = c.short_form_among.ensures.value; form = c.short_form_among.ensures.form forms_are_short }
