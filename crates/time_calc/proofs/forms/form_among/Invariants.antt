use Rattle.std.proofs.Common.{◌≡◌, find, drop}
use Rattle.time_calc.specs.Forms.{fits}
use Rattle.time_calc.proofs.forms.form_among.Given as goal

abbrev pub invariant-loop-form : goal.invariant-loop-form
invariant-loop-form l = find (λ form. fits form.now l.text) (drop l.form-index l.forms) ≡ find (λ form. fits form.now l.text) l.forms
