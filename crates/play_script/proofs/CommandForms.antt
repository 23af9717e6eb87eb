-- Commands by how many items they have.
use Rattle.std.proofs.Common.{◌≡◌, ◌≢◌, List, [], ◌∷◌, length, refl, arith}
use Rattle.json_exact.specs.declared.json.Json.{Json}
use Rattle.param_flow.specs.Commands.{command_in}
use Rattle.play_script.specs.inner.Reading.{script_expression, command_of_three, other_command_in}

-- three items are a word and two values
pub three_is : (items : List Json) → length items ≡ 3 → command_in script_expression items ≡ command_of_three script_expression items
three_is [] three = absurd (omega arith)
three_is (a ∷ []) three = absurd (omega arith)
three_is (a ∷ b ∷ []) three = absurd (omega arith)
three_is (a ∷ b ∷ c ∷ []) three = refl
three_is (a ∷ b ∷ c ∷ d ∷ items) three = absurd (omega arith)

-- other items are one or five
pub other_is : (items : List Json) → length items ≢ 3 → command_in script_expression items ≡ other_command_in items
other_is [] other = refl
other_is (a ∷ []) other = refl
other_is (a ∷ b ∷ []) other = refl
other_is (a ∷ b ∷ c ∷ []) other = absurd (other (omega arith))
other_is (a ∷ b ∷ c ∷ d ∷ []) other = refl
other_is (a ∷ b ∷ c ∷ d ∷ e ∷ []) other = refl
other_is (a ∷ b ∷ c ∷ d ∷ e ∷ f ∷ items) other = refl
