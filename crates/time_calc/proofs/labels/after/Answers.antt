use Rattle.std.proofs.Common.{◌≡◌, ◌∙◌, sym, subst, true, false, Bool, Option, ℕ, List, ◌∷◌, ◌==◌}
use Rattle.std.specs.Option.{is_some}
use Rattle.time_calc.specs.Labels.{pieces}
use Rattle.time_calc.specs.inner.Labels.{IsAfter}
use Rattle.time_calc.proofs.LabelLemmas.{known_letter, unknown_letter, plain_or_percent}
use Rattle.time_calc.proofs.labels.after.Goals as goal

pub returns-in_err-directive_of : goal.returns-in_err-directive_of
returns-in_err-directive_of c =
    let P : Bool → Type 0 = λ b. IsAfter b c.args.c c.from_residual.result in
    let Q : Option Bool → Type 0 = λ o. IsAfter true c.args.c o in
    subst P (sym c.if-after_percent.true)
    (subst Q (sym c.from_residual.ensures) (unknown_letter c.args.c (sym c.directive_of.ensures ∙ c.in_err-directive_of.was)))

pub returns-in_ok-directive_of : goal.returns-in_ok-directive_of
returns-in_ok-directive_of c =
    let P : Bool → Type 0 = λ b. (rest : List ℕ) → is_some (pieces b (c.args.c ∷ rest)) ≡ is_some (pieces false rest) in
    subst P (sym c.if-after_percent.true) (known_letter c.args.c c.in_ok-directive_of.field-0 (sym c.directive_of.ensures ∙ c.in_ok-directive_of.was))

pub returns-else-after_percent : goal.returns-else-after_percent
returns-else-after_percent c =
    let P : Bool → Type 0 = λ b. (rest : List ℕ) → is_some (pieces b (c.args.c ∷ rest)) ≡ is_some (pieces (c.args.c == 37) rest) in
    subst P (sym c.if-after_percent.false) (plain_or_percent c.args.c)
