-- Texts and their tokens.
use Rattle.std.proofs.Common.{◌≡◌, List, [], ◌∷◌, Err, pos, refl, arith}
use Rattle.std.specs.Prelude.{codes}
use Rattle.fixed_num.specs.Number.{rounded, floor_quotient}
use Rattle.fixed_num.specs.JsonNumber.{decimal_value, scaled}
use Rattle.fixed_num.specs.Front.{parts_at, whole_at, fraction_at, exponent_at, signed_at, digits_at, leading_digits, after_digits}
use Rattle.expr_syntax.specs.NumberText.{parts_of}
use Rattle.expr_syntax.specs.declared.token.Token.{Token}
use Rattle.expr_syntax.specs.declared.token.Token.TheVariants.{Name, Number, Mark}
use Rattle.expr_syntax.specs.declared.token.Mark.TheVariants.{Minus}
use Rattle.expr_syntax.specs.Tokens.{HasTokens, none}
use Rattle.expr_syntax.specs.inner.Scanner.{token_at, number_at, mark_of}
use Rattle.expr_syntax.proofs.Steps.{done}
use Rattle.expr_syntax.proofs.TokenLemmas.{has_token, none_has}

an_exponent : token_at (codes "1e+5") ≡ done (Number (pos 100000000000), [])
unfolding token_at number_at parts_of parts_at whole_at fraction_at exponent_at signed_at digits_at leading_digits after_digits decimal_value
    scaled rounded floor_quotient
an_exponent = refl

five : token_at (codes "5-x") ≡ done (Number (pos 5000000), codes "-x")
unfolding token_at number_at parts_of parts_at whole_at fraction_at exponent_at signed_at digits_at leading_digits after_digits decimal_value
    scaled rounded floor_quotient
five = refl

minus : token_at (codes "-x") ≡ done (Mark Minus, codes "x")
unfolding token_at mark_of
minus = refl

name : token_at (codes "x") ≡ done (Name (codes "x"), [])
unfolding token_at
name = refl

one_number : HasTokens (codes "1e+5") (Number (pos 100000000000) ∷ [])
one_number = has_token (codes "1e+5") [] (Number (pos 100000000000), []) an_exponent none

a_point_and_a_letter : token_at (codes "1.x") ≡ Err tt
unfolding token_at number_at parts_of parts_at whole_at fraction_at exponent_at signed_at digits_at leading_digits after_digits decimal_value
    scaled rounded floor_quotient
a_point_and_a_letter = refl

no_tokens : (ts : List Token) → HasTokens (codes "1.x") ts → ⊥
no_tokens ts h = none_has (codes "1.x") ts h (omega arith) refl a_point_and_a_letter

a_difference : HasTokens (codes "5-x") (Number (pos 5000000) ∷ Mark Minus ∷ Name (codes "x") ∷ [])
a_difference =
    has_token (codes "5-x") (Mark Minus ∷ Name (codes "x") ∷ []) (Number (pos 5000000), codes "-x") five
    (has_token (codes "-x") (Name (codes "x") ∷ []) (Mark Minus, codes "x") minus
    (has_token (codes "x") [] (Name (codes "x"), []) name none))
