use Rattle.std.proofs.Common.{◌≡◌, ◌∙◌, sym, ◌<◌, ◌^◌, ℤ, to_z, of_z, arith}
use Rattle.std.specs.Int.{w128}
use Rattle.std.specs.Prelude.{int_rem, int_div, ◌-ℤ◌, ◌*ℤ◌}
use Rattle.std.specs.Int.Signed.{mag, mag_rem}
use Rattle.std.proofs.lemmas.Int.{to_z-of_z}
use Rattle.expr_eval.proofs.RangeLemmas.{rest_is}
use Rattle.expr_eval.proofs.operations.rest.Goals as goal

rest_fits : (a b : ℤ) → mag a < 2 ^ 127 → mag (int_rem a b) < 2 ^ 127
rest_fits a b f = omega (arith, mag_rem a b)

-- a remainder of two numbers that fit
fitting : (a b x y : ℤ) → a ≡ x → b ≡ y → mag a < 2 ^ 127 → mag b < 2 ^ 127
    → to_z w128 (of_z w128 (int_rem (to_z w128 (of_z w128 a)) (to_z w128 (of_z w128 b)))) ≡ x -ℤ y *ℤ int_div x y
fitting a b x y p q f g =
    (λ i. to_z w128 (of_z w128 (int_rem (to_z-of_z w128 a (record { sfits = f }) i) (to_z-of_z w128 b (record { sfits = g }) i))))
    ∙ to_z-of_z w128 (int_rem a b) (record { sfits = rest_fits a b f })
    ∙ (λ i. int_rem (p i) (q i))
    ∙ sym (rest_is x y)

pub returns : goal.returns
returns c = fitting _ _ _ _ c.millionths.ensures.value c.millionths-2.ensures.value c.millionths.type_inv c.millionths-2.type_inv
