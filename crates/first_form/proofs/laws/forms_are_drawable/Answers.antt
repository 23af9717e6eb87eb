use Rattle.first_form.proofs.FormLemmas.{forms_are_drawable}
use Rattle.first_form.proofs.laws.forms_are_drawable.Goals as goal

pub returns : goal.returns
returns c = forms_are_drawable
