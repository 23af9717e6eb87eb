-- What texts read as, as functions of them. Whether a text reads as a tree, or spells a call, is decided by proofs about the grammar, of which
-- nothing has to be believed: the laws `ExpressionOfIsReading` and `CallOfIsSpelled` tie each function to the grammar, and leave it no choice.
use Rattle.std.specs.Prelude.{ℕ, List, Option, Some, None}
use Rattle.std.proofs.Common.{inl, inr}
use Rattle.expr_syntax.specs.declared.expr.Expr.{Expr}
use Rattle.expr_syntax.specs.declared.calls.TextCall.{TextCall}
use Rattle.expr_syntax.proofs.Decided.{Decided, decided}
use Rattle.expr_syntax.proofs.DecidedCalls.{DecidedCall, decided_call}

-- the tree that was found
abbrev pub tree_found : {text : List ℕ} → Decided text → Option Expr
tree_found (inl found) = Some found.0
tree_found (inr never) = None

-- the tree that a text reads as
unfoldable pub expression_of : List ℕ → Option Expr
expression_of text = tree_found (decided text)

-- the call that was found
abbrev pub call_found : {text : List ℕ} → DecidedCall text → Option TextCall
call_found (inl found) = Some found.0
call_found (inr never) = None

-- the call of a name with texts that a text spells
unfoldable pub call_of : List ℕ → Option TextCall
call_of text = call_found (decided_call text)
