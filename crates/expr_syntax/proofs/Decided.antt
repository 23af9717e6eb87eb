-- Whether a text reads as a tree can be decided.
use Rattle.std.proofs.Common.{◌≡◌, ℕ, zero, suc, ◌<◌, List, [], ◌∷◌, length, drop, Result, Ok, Err, refl, sym, ap, subst, inl, inr, ◌⊎◌}
use Rattle.std.proofs.Common.{arith}
use Rattle.std.specs.List.{prefix_len}
use Rattle.expr_syntax.specs.declared.expr.Expr.{Expr}
use Rattle.expr_syntax.specs.declared.token.Token.{Token}
use Rattle.expr_syntax.specs.Tokens.{is_blank, HasTokens, none}
use Rattle.expr_syntax.specs.Grammar.{HasReading}
use Rattle.expr_syntax.specs.inner.Scanner.{Read, token_at}
use Rattle.expr_syntax.specs.inner.Parser.{whole_at}
use Rattle.expr_syntax.proofs.Cuts.{front_ends}
use Rattle.expr_syntax.proofs.Readings.{whole_read, read_sound}
use Rattle.expr_syntax.proofs.TokenLemmas.{token_has, has_token, token_shorter, none_has, blanks_have, have_blanks, blanks_le}

-- the tokens of bytes, or that they have none
abbrev pub HaveTokens : List ℕ → Type 0
HaveTokens bytes = ((ts : List Token) × HasTokens bytes ts) ⊎ ((ts : List Token) → HasTokens bytes ts → ⊥)

-- bytes from the first that is no blank
abbrev bare : List ℕ → List ℕ
bare bytes = drop (prefix_len is_blank bytes) bytes

with_first : (bytes : List ℕ) (x : Token × List ℕ) → token_at (bare bytes) ≡ Ok x → HaveTokens x.1 → HaveTokens bytes
with_first bytes x e (inl h) = inl (x.0 ∷ h.0, have_blanks bytes (x.0 ∷ h.0) (has_token (bare bytes) h.0 x e h.1))
with_first bytes x e (inr never) = inr (λ ts h. let a = token_has (bare bytes) ts x (blanks_have bytes ts h) e in never a.others a.have)

at_token : (bytes : List ℕ) → 0 < length (bare bytes) → ((x : Token × List ℕ) → token_at (bare bytes) ≡ Ok x → HaveTokens x.1)
    → (r : Read Token) → token_at (bare bytes) ≡ r → HaveTokens bytes
at_token bytes some later (Ok x) e = with_first bytes x e (later x e)
at_token bytes some later (Err k) e = inr (λ ts h. none_has (bare bytes) ts (blanks_have bytes ts h) some (front_ends is_blank bytes) e)

at_bare : (bytes rest : List ℕ) → bare bytes ≡ rest → ((x : Token × List ℕ) → token_at (bare bytes) ≡ Ok x → HaveTokens x.1)
    → HaveTokens bytes
at_bare bytes [] e later = inl ([], have_blanks bytes [] (subst (λ (b : List ℕ). HasTokens b []) (sym e) none))
at_bare bytes (b ∷ rest) e later =
    let long : length (bare bytes) ≡ length (b ∷ rest) = ap length e in
    at_token bytes (omega arith) later (token_at (bare bytes)) refl

pub have_tokens : (fuel : ℕ) (bytes : List ℕ) → length bytes < fuel → HaveTokens bytes
have_tokens zero bytes few = absurd (omega arith)
have_tokens (suc fuel) bytes few =
    at_bare bytes (bare bytes) refl (λ x e. have_tokens fuel x.1 (omega (arith, few, token_shorter (bare bytes) x e, blanks_le bytes)))

-- the tree that a text reads as, or that it reads as none
abbrev pub Decided : List ℕ → Type 0
Decided text = ((e : Expr) × HasReading text e) ⊎ ((e : Expr) → HasReading text e → ⊥)

of_whole : (text : List ℕ) (tokens : List Token) → HasTokens text tokens → (r : Result Expr (Unit {0})) → whole_at tokens ≡ r → Decided text
of_whole text tokens has (Ok e) h = inl (e, read_sound text tokens e has h)
of_whole text tokens has (Err k) h = inr (λ e r. let again = whole_read text tokens e has r in absurd cc)

of_tokens : (text : List ℕ) → HaveTokens text → Decided text
of_tokens text (inl h) = of_whole text h.0 h.1 (whole_at h.0) refl
of_tokens text (inr never) = inr (λ e r. never r.tokens r.spelled)

pub decided : (text : List ℕ) → Decided text
decided text = of_tokens text (have_tokens (suc (length text)) text (omega arith))
