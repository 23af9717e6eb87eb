-- Calls of names with texts, as `vlPoint('p', 'f')`.
use Rattle.std.specs.Prelude.{◌≡◌, ℕ, List, [], ◌∷◌, ◌++◌, codes, flat_map, refl}
use Rattle.expr_syntax.specs.declared.calls.TextCall.{TextCall}
use Rattle.expr_syntax.specs.declared.token.Token.{Token}
use Rattle.expr_syntax.specs.declared.token.Token.TheVariants.{Name, Quoted, Mark}
use Rattle.expr_syntax.specs.declared.token.Mark.TheVariants.{Comma, Open, Close}
use Rattle.expr_syntax.specs.Tokens.{HasTokens}

-- texts, each after a `,`
abbrev pub after_commas : List (List ℕ) → List Token
after_commas texts = flat_map (λ text. Mark Comma ∷ Quoted text ∷ []) texts

-- texts with `,` between them
abbrev pub argument_tokens : List (List ℕ) → List Token
argument_tokens [] = []
argument_tokens (text ∷ others) = Quoted text ∷ after_commas others

-- the tokens of a call: its name, and its arguments between `(` and `)`
abbrev pub call_tokens : TextCall → List Token
call_tokens call = Name call.name ∷ Mark Open ∷ argument_tokens call.arguments ++ Mark Close ∷ []

-- the text spells the call: its tokens are those of the call and no others
abbrev pub SpellsCall : List ℕ → TextCall → Type 0
SpellsCall text call = HasTokens text (call_tokens call)

-- The rule at work: `vlPoint('p', 'f')` and `go()`.

two_arguments : call_tokens (record { name = codes "vlPoint"; arguments = codes "p" ∷ codes "f" ∷ [] })
    ≡ Name (codes "vlPoint") ∷ Mark Open ∷ Quoted (codes "p") ∷ Mark Comma ∷ Quoted (codes "f") ∷ Mark Close ∷ []
two_arguments = refl

no_argument : call_tokens (record { name = codes "go"; arguments = [] }) ≡ Name (codes "go") ∷ Mark Open ∷ Mark Close ∷ []
no_argument = refl
