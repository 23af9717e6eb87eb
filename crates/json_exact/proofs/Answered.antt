-- The answers of a reader from its first call to its last.
use Rattle.std.proofs.Common.{◌≡◌, ℕ, List, [], ◌∷◌, Result, Ok, Option, Some, None, refl, ap, subst, ◌∙◌}
use Rattle.fixed_num.specs.Steps.{◌>>=◌}
use Rattle.json_exact.specs.declared.json.Json.{Json}
use Rattle.json_exact.specs.declared.value_reader.ValueReader.{ValueReader}
use Rattle.json_exact.specs.Values.{ahead, Answers, come_to, AreValuesOf, AnswersAreTheValues}

one_more : (value : Json) (values : List Json) (end : Option ℕ)
    → (come_to values end >>= λ more. Ok (value ∷ more)) ≡ come_to (value ∷ values) end
one_more value values None = refl
one_more value values (Some place) = refl

-- what is ahead is what the answers come to
all_answers : (reader : ValueReader) (values : List Json) (end : Option ℕ) → Answers reader values end → ahead reader ≡ come_to values end
all_answers reader [] None is = is
all_answers reader [] (Some place) is = is
all_answers reader (value ∷ values) end (others, is, later) =
    is ∙ ap (λ (given : Result (List Json) ℕ). given >>= λ more. Ok (value ∷ more)) (all_answers others values end later)
    ∙ one_more value values end

pub answers_right : AnswersAreTheValues
answers_right bytes reader values end right answers = subst (AreValuesOf bytes) (all_answers reader values end answers) right
