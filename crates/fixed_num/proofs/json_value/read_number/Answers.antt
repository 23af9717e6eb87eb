use Rattle.std.proofs.Common.{sym, subst, ap, ◌∙◌, ◌≤◌, ℕ, arith}
use Rattle.std.specs.Option.{SomeIff}
use Rattle.fixed_num.specs.Number.{limit}
use Rattle.fixed_num.specs.inner.Digits.{number_after}
use Rattle.fixed_num.proofs.DigitLemmas.{number_joined, number_after-ge}
use Rattle.fixed_num.proofs.json_value.read_number.Goals as goal

pub returns-in_err-read_digits : goal.returns-in_err-read_digits
returns-in_err-read_digits c =
    rw c.from_residual.ensures (λ h. c.in_err-read_digits.ensures
    (omega (
      arith,
      h,
      number_joined c.args.front.now c.args.back.now,
      number_after-ge (number_after 0 c.args.front.now)
          c.args.back.now,
    )))

pub returns : goal.returns
returns c =
    let read = c.in_ok-read_digits.ensures in
    subst (λ (n : ℕ). SomeIff c.read_digits-2.result (n ≤ limit) n) (ap (λ n. number_after n c.args.back.now) read.1
    ∙ sym (number_joined c.args.front.now c.args.back.now)) c.read_digits-2.ensures
