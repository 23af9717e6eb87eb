-- Whether a text spells a call can be decided.
use Rattle.std.proofs.Common.{◌≡◌, ◌⊎◌, ℕ, List, length, suc, Option, Some, None, refl, sym, subst, inl, inr, arith}
use Rattle.expr_syntax.specs.declared.calls.TextCall.{TextCall}
use Rattle.expr_syntax.specs.declared.token.Token.{Token}
use Rattle.expr_syntax.specs.Tokens.{HasTokens}
use Rattle.expr_syntax.specs.Calls.{call_tokens, SpellsCall}
use Rattle.expr_syntax.specs.inner.Calls.{call_in}
use Rattle.expr_syntax.proofs.Called.{call_sound, call_again, spells_complete}
use Rattle.expr_syntax.proofs.Decided.{HaveTokens, have_tokens}
use Rattle.expr_syntax.proofs.TokenLemmas.{one_list}

-- the call that a text spells, or that it spells none
abbrev pub DecidedCall : List ℕ → Type 0
DecidedCall text = ((call : TextCall) × SpellsCall text call) ⊎ ((call : TextCall) → SpellsCall text call → ⊥)

of_call : (text : List ℕ) (tokens : List Token) → HasTokens text tokens → (found : Option TextCall) → call_in tokens ≡ found
    → DecidedCall text
of_call text tokens has (Some call) e = inl (call, subst (λ (ts : List Token). HasTokens text ts) (call_sound tokens call e) has)
of_call text tokens has None e = inr (λ call spelled. let again = spells_complete text tokens has None (sym e) call spelled in absurd cc)

of_tokens : (text : List ℕ) → HaveTokens text → DecidedCall text
of_tokens text (inl h) = of_call text h.0 h.1 (call_in h.0) refl
of_tokens text (inr never) = inr (λ call spelled. never (call_tokens call) spelled)

pub decided_call : (text : List ℕ) → DecidedCall text
decided_call text = of_tokens text (have_tokens (suc (length text)) text (omega arith))

-- no text spells two calls
pub one_call : (text : List ℕ) (c d : TextCall) → SpellsCall text c → SpellsCall text d → c ≡ d
one_call text c d one other =
    let same : call_tokens c ≡ call_tokens d = one_list (call_tokens c) (call_tokens d) one other in
    let again : call_in (call_tokens d) ≡ Some c = subst (λ (ts : List Token). call_in ts ≡ Some c) same (call_again c) in
    let its : call_in (call_tokens d) ≡ Some d = call_again d in
    cc
