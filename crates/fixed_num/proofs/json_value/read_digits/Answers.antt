use Rattle.std.proofs.Common.{sym, ◌∙◌, arith}
use Rattle.fixed_num.proofs.DigitLemmas.{DigitStep-at}
use Rattle.fixed_num.proofs.json_value.read_digits.Goals as goal

pub returns-then-number-gt-LIMIT : goal.returns-then-number-gt-LIMIT
returns-then-number-gt-LIMIT c =
    let step = DigitStep-at c.args.digits.now c.loop-digit.digit-index c.loop-digit.number _ (omega arith) c.loop-digit.invariant.digits
    c.from.ensures in
    λ h. omega (arith, h, step.least)

pub loop-digit-preserved : goal.loop-digit-preserved
loop-digit-preserved c =
    let step = DigitStep-at c.args.digits.now c.loop-digit.digit-index c.loop-digit.number _ (omega arith) c.loop-digit.invariant.digits
    c.from.ensures in
    record { in_range = omega arith; digits = step.digits; same = sym step.same ∙ c.loop-digit.invariant.same }
