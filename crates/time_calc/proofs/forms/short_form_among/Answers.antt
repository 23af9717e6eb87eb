use Rattle.std.proofs.Common.{◌∙◌, ap, sym, option_map, subst, IfSome, Bor, List, ℕ, Option}
use Rattle.time_calc.specs.Forms.{fits}
use Rattle.time_calc.specs.inner.Forms.{first_fit, IsFormOf}
use Rattle.time_calc.proofs.FormLemmas.{found_now, found_form}
use Rattle.time_calc.proofs.forms.short_form_among.Goals as goal

pub returns-clause-value : goal.returns-clause-value
unfolding first_fit
returns-clause-value c =
    ap (option_map (λ (x : Bor (List ℕ)). x.now)) c.form_among.ensures ∙ found_now (λ form. fits form c.args.text.now) c.args.forms.now

pub returns-clause-form : goal.returns-clause-form
returns-clause-form c =
    λ all. let P : Option (Bor (List ℕ)) → Type 0 = λ o. IfSome o (λ form. IsFormOf c.args.text.now form.now) in
    subst P (sym c.form_among.ensures) (found_form c.args.text.now c.args.forms.now all)
