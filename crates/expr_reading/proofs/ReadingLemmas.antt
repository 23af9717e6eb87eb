-- What is decided of a text is what it reads as.
use Rattle.std.proofs.Common.{◌≡◌, ◌↔◌, ℕ, List, Option, Some, None, Result, Ok, Err, refl, ap, subst, inl, inr}
use Rattle.std.specs.Prelude.{IfOk, IfSome}
use Rattle.expr_syntax.specs.declared.expr.Expr.{Expr}
use Rattle.expr_syntax.specs.declared.calls.TextCall.{TextCall}
use Rattle.expr_syntax.specs.Grammar.{HasReading}
use Rattle.expr_syntax.specs.Calls.{SpellsCall}
use Rattle.expr_syntax.proofs.Decided.{Decided, decided}
use Rattle.expr_syntax.proofs.Readings.{one_tree}
use Rattle.expr_syntax.proofs.DecidedCalls.{DecidedCall, decided_call, one_call}
use Rattle.expr_reading.specs.Readings.{tree_found, expression_of, call_found, call_of}

-- ---- trees

tree_sound : (text : List ℕ) (d : Decided text) (e : Expr) → tree_found d ≡ Some e → HasReading text e
tree_sound text (inl found) e is = let same : found.0 ≡ e = cc in subst (λ (t : Expr). HasReading text t) same found.1
tree_sound text (inr never) e is = absurd cc

tree_complete : (text : List ℕ) (d : Decided text) (e : Expr) → HasReading text e → tree_found d ≡ Some e
tree_complete text (inl found) e r = ap Some (one_tree text found.0 e found.1 r)
tree_complete text (inr never) e r = absurd (never e r)

tree_none : (text : List ℕ) (d : Decided text) → ((e : Expr) → HasReading text e → ⊥) → tree_found d ≡ None
tree_none text (inl found) unread = absurd (unread found.0 found.1)
tree_none text (inr never) unread = refl

pub expression_is : (text : List ℕ) (e : Expr) → (expression_of text ≡ Some e) ↔ HasReading text e
unfolding expression_of
expression_is text e = (tree_sound text (decided text) e, tree_complete text (decided text) e)

-- a text that reads as nothing has no expression
pub no_expression : (text : List ℕ) → ((e : Expr) → HasReading text e → ⊥) → expression_of text ≡ None
unfolding expression_of
no_expression text unread = tree_none text (decided text) unread

-- ---- calls

spelled_sound : (text : List ℕ) (d : DecidedCall text) (call : TextCall) → call_found d ≡ Some call → SpellsCall text call
spelled_sound text (inl found) call is = let same : found.0 ≡ call = cc in subst (λ (t : TextCall). SpellsCall text t) same found.1
spelled_sound text (inr never) call is = absurd cc

spelled_complete : (text : List ℕ) (d : DecidedCall text) (call : TextCall) → SpellsCall text call → call_found d ≡ Some call
spelled_complete text (inl found) call s = ap Some (one_call text found.0 call found.1 s)
spelled_complete text (inr never) call s = absurd (never call s)

pub call_is : (text : List ℕ) (call : TextCall) → (call_of text ≡ Some call) ↔ SpellsCall text call
unfolding call_of
call_is text call = (spelled_sound text (decided_call text) call, spelled_complete text (decided_call text) call)

-- what was found is the call that a text spells, where all that it spells is found
found_is : (text : List ℕ) (d : DecidedCall text) (found : Option TextCall) → IfSome found (SpellsCall text)
    → ((call : TextCall) → SpellsCall text call → found ≡ Some call) → found ≡ call_found d
found_is text (inl known) found sound complete = complete known.0 known.1
found_is text (inr never) (Some call) sound complete = absurd (never call sound)
found_is text (inr never) None sound complete = refl

pub call_read : {E : Type 0} (text : List ℕ) (result : Result (Option TextCall) E) → IfOk result (λ found. IfSome found (SpellsCall text))
    → IfOk result (λ found. (call : TextCall) → SpellsCall text call → found ≡ Some call) → IfOk result (λ found. found ≡ call_of text)
unfolding call_of
call_read text (Ok found) sound complete = found_is text (decided_call text) found sound complete
call_read text (Err error) sound complete = tt
