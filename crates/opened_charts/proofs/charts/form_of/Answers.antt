use Rattle.std.proofs.Common.{◌≡◌, Option, Some, None, IfSome, sym}
use Rattle.json_exact.specs.declared.json.Json.{Json}
use Rattle.first_form.specs.declared.form.FirstForm.{FirstForm}
use Rattle.first_form.specs.FirstForm.{form_of}
use Rattle.first_form.specs.Drawable.{IsDrawable}
use Rattle.first_form.proofs.FormLemmas.{forms_are_drawable}
use Rattle.opened_charts.proofs.charts.form_of.Goals as goal

drawable : (tree : Json) (form : Option FirstForm) → form ≡ form_of tree → IfSome form IsDrawable
drawable tree None is = tt
drawable tree (Some form) is = forms_are_drawable tree form (sym is)

pub returns : goal.returns
returns c = drawable _ _ c.in_ok-first_form.ensures
