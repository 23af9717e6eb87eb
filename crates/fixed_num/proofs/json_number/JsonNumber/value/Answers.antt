use Rattle.std.proofs.Common.{◌≡◌, ◌∙◌, ap, arith}
use Rattle.std.proofs.lemmas.Int.{ints}
use Rattle.fixed_num.specs.Number.{signed}
use Rattle.fixed_num.specs.JsonNumber.{number_of, decimal_value}
use Rattle.fixed_num.proofs.RoundingLemmas.{exact_at}
use Rattle.fixed_num.proofs.ScaleLemmas.{scaled_to_left, scaled_to_right}
use Rattle.fixed_num.proofs.json_number.JsonNumber.value.Goals as goal

pub returns-then-places-lt0 : goal.returns-then-places-lt0
unfolding decimal_value
returns-then-places-lt0 c =
    let exponent : c.with_sign.result ≡ signed c.args.self.exponent.minus (number_of c.args.self.exponent.digits.now) =
    c.with_sign.ensures.value ∙ ap (signed c.args.self.exponent.minus) (omega (arith, c.in-Some.ensures)) in
    exact_at _ _ _ c.scale_down.ensures (scaled_to_left _ _ _ (omega (arith, ints, c.unsigned_abs.ensures.value, c.with_sign.ensures.bound))
    (omega (arith, ints, exponent, c.unsigned_abs.ensures.value, c.with_sign.ensures.bound)))

pub returns-else-places-lt0 : goal.returns-else-places-lt0
unfolding decimal_value
returns-else-places-lt0 c =
    let exponent : c.with_sign.result ≡ signed c.args.self.exponent.minus (number_of c.args.self.exponent.digits.now) =
    c.with_sign.ensures.value ∙ ap (signed c.args.self.exponent.minus) (omega (arith, c.in-Some.ensures)) in
    exact_at _ _ _ c.scale_up.ensures
    (scaled_to_right c.args.self.minus _ _ _
    (omega (arith, ints, exponent, c.unsigned_abs-else-places-lt0.ensures.value, c.with_sign.ensures.bound)))
