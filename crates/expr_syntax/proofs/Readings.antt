-- A text is read as the tree that it reads as.
use Rattle.std.proofs.Common.{◌≡◌, ℕ, List, Result, Ok, Err, refl, sym, ap, ◌∙◌, inl, inr, ◌⊎◌}
use Rattle.std.specs.Prelude.{IfOk}
use Rattle.text_kit.specs.Answer.{GivesAs}
use Rattle.expr_syntax.specs.declared.errors.ExprError.{ExprError}
use Rattle.expr_syntax.specs.declared.errors.ExprError.TheVariants.{Shape, Memory}
use Rattle.expr_syntax.specs.declared.expr.Expr.{Expr}
use Rattle.expr_syntax.specs.declared.token.Token.{Token}
use Rattle.expr_syntax.specs.Tokens.{HasTokens}
use Rattle.expr_syntax.specs.Grammar.{HasReading}
use Rattle.expr_syntax.specs.inner.Scanner.{cause}
use Rattle.expr_syntax.specs.inner.Parser.{whole_at}
use Rattle.expr_syntax.proofs.Taken.{ok_is}
use Rattle.expr_syntax.proofs.Sound.{whole_sound}
use Rattle.expr_syntax.proofs.Complete.{whole_again}
use Rattle.expr_syntax.proofs.TokenLemmas.{one_list}

-- the tokens of a text that reads as a tree are read as it
pub whole_read : (text : List ℕ) (tokens : List Token) (e : Expr) → HasTokens text tokens → HasReading text e → whole_at tokens ≡ Ok e
whole_read text tokens e has r =
    let same : r.tokens ≡ tokens = one_list r.tokens tokens r.spelled has in
    ap whole_at (sym same) ∙ whole_again r.tokens e r.is r.low

pub one_tree : (text : List ℕ) (d e : Expr) → HasReading text d → HasReading text e → d ≡ e
one_tree text d e r s = ok_is d e (sym (whole_again r.tokens d r.is r.low) ∙ whole_read text r.tokens e r.spelled s)

pub read_sound : (text : List ℕ) (tokens : List Token) (e : Expr) → HasTokens text tokens → whole_at tokens ≡ Ok e → HasReading text e
read_sound text tokens e has h =
    let s = whole_sound tokens e h in
    record { tokens = tokens; spelled = has; is = s.0; low = s.1 }

pub read_is_sound : (text : List ℕ) (tokens : List Token) (result : Result Expr ExprError) → HasTokens text tokens
    → GivesAs (λ e. e) cause result (whole_at tokens) → IfOk result (λ e. HasReading text e)
read_is_sound text tokens (Ok e) has g = read_sound text tokens e has g
read_is_sound text tokens (Err error) has g = tt

pub read_complete : (text : List ℕ) (tokens : List Token) (result : Result Expr ExprError) → HasTokens text tokens
    → GivesAs (λ e. e) cause result (whole_at tokens) → (e : Expr) → HasReading text e → (result ≡ Ok e) ⊎ (result ≡ Err Memory)
read_complete text tokens (Ok d) has g e r = inl (ap Ok (ok_is d e (sym g ∙ whole_read text tokens e has r)))
read_complete text tokens (Err Memory) has g e r = inr refl
read_complete text tokens (Err Shape) has g e r =
    let h = whole_read text tokens e has r in
    absurd cc

pub read_shape : (text : List ℕ) (tokens : List Token) (result : Result Expr ExprError) → HasTokens text tokens
    → GivesAs (λ e. e) cause result (whole_at tokens) → result ≡ Err Shape → (e : Expr) → HasReading text e → ⊥
read_shape text tokens result has g same e r = elim (read_complete text tokens result has g e r) [
  | inl h ↦ cc
  | inr h ↦ cc
]

-- an error as an answer
abbrev pub refused_tokens : ExprError → Result (List Token) ExprError
refused_tokens error = Err error

abbrev pub refused : ExprError → Result Expr ExprError
refused error = Err error

-- a text that has no tokens
no_tokens : (text : List ℕ) (error : ExprError) → (refused_tokens error ≡ Err Shape → (tokens : List Token) → HasTokens text tokens → ⊥)
    → (e : Expr) → HasReading text e → error ≡ Memory
no_tokens text Memory none e r = refl
no_tokens text Shape none e r = absurd (none refl r.tokens r.spelled)

pub refused_complete : (text : List ℕ) (error : ExprError)
    → (refused_tokens error ≡ Err Shape → (tokens : List Token) → HasTokens text tokens → ⊥) → (e : Expr) → HasReading text e
    → (refused error ≡ Ok e) ⊎ (refused error ≡ Err Memory)
refused_complete text error none e r = inr (ap refused (no_tokens text error none e r))

pub refused_shape : (text : List ℕ) (error : ExprError)
    → (refused_tokens error ≡ Err Shape → (tokens : List Token) → HasTokens text tokens → ⊥) → refused error ≡ Err Shape → (e : Expr)
    → HasReading text e → ⊥
refused_shape text error none same e r =
    let memory = no_tokens text error none e r in
    cc
