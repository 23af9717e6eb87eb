use Rattle.std.proofs.Common.{◌∙◌, ◌++◌, ◌∷◌, [], ◌+◌, ◌%◌, ◌/◌, ◌-◌, ap, sym, arith, append_assoc, append-nil}
use Rattle.std.proofs.lemmas.Result.{IfOk-equal}
use Rattle.time_calc.specs.Labels.{digits}
use Rattle.time_calc.proofs.LabelLemmas.{no_digit, last_digit}
use Rattle.time_calc.proofs.labels.+push_digits.Goals as goal

pub returns-then-places-eq0 : goal.returns-then-places-eq0
returns-then-places-eq0 t c =
    sym (append-nil c.args.out.now) ∙ ap (λ d. c.args.out.now ++ d) (sym (ap (λ p. digits p c.args.number) c.if-places-eq0.true ∙ no_digit c.args.number))

pub returns : goal.returns
returns t c =
    let last = 48 + c.args.number % 10 in
    IfOk-equal _ _ _ _ c.push_digit.ensures
    (ap (λ d. d ++ last ∷ []) c.in_ok-push_digits.ensures
    ∙ append_assoc c.args.out.now (digits (c.args.places - 1) (c.args.number / 10)) (last ∷ [])
    ∙ ap (λ d. c.args.out.now ++ d) (sym (last_digit c.args.places c.args.number (omega arith))))
