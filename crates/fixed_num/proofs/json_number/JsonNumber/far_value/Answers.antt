use Rattle.std.proofs.Common.{◌∙◌, ◌++◌, sym, ap, arith}
use Rattle.fixed_num.specs.Number.{signed}
use Rattle.fixed_num.specs.JsonNumber.{number_of}
use Rattle.fixed_num.specs.inner.View.{parts}
use Rattle.fixed_num.proofs.RoundingLemmas.{exact_at}
use Rattle.fixed_num.proofs.DigitLemmas.{digits_together, zeros_are_nothing, others_are_something}
use Rattle.fixed_num.proofs.ScaleLemmas.{value_far_left, value_far_zeros, value_far_right}
use Rattle.fixed_num.proofs.json_number.JsonNumber.far_value.Goals as goal

pub returns-then-self : goal.returns-then-self
returns-then-self c =
    exact_at _ _ _ c.of_size.ensures
    (value_far_left (parts c.args.self) _ (digits_together c.args.self.whole.now c.args.self.fraction.now c.requires.whole
    c.requires.fraction) (ap (λ b. signed b (number_of c.args.self.exponent.digits.now)) c.if-self.true) (omega arith))

pub returns-then-are_zeros : goal.returns-then-are_zeros
returns-then-are_zeros c =
    exact_at _ _ _ c.of_size-then-are_zeros.ensures
    (value_far_zeros (parts c.args.self) _
    (zeros_are_nothing (c.args.self.whole.now ++ c.args.self.fraction.now) (sym c.are_zeros.ensures ∙ c.if-are_zeros.true))
    (ap (λ b. signed b (number_of c.args.self.exponent.digits.now)) c.if-self.false) (omega arith))

pub returns : goal.returns
returns c =
    value_far_right (parts c.args.self) _ (others_are_something (c.args.self.whole.now ++ c.args.self.fraction.now)
    (digits_together c.args.self.whole.now c.args.self.fraction.now c.requires.whole c.requires.fraction) (sym c.are_zeros.ensures
    ∙ c.if-are_zeros.false)) (ap (λ b. signed b (number_of c.args.self.exponent.digits.now)) c.if-self.false) (omega arith)
