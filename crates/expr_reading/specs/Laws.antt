-- What holds of readings, whatever the text.
use Rattle.std.specs.Prelude.{◌≡◌, ◌↔◌, ℕ, List, Some}
use Rattle.expr_syntax.specs.declared.expr.Expr.{Expr}
use Rattle.expr_syntax.specs.declared.calls.TextCall.{TextCall}
use Rattle.expr_syntax.specs.Grammar.{HasReading}
use Rattle.expr_syntax.specs.Calls.{SpellsCall}
use Rattle.expr_reading.specs.Readings.{expression_of, call_of}

-- the tree that a text is said to read as is the one that it reads as by the grammar
abbrev pub ExpressionOfIsReading : Type 0
ExpressionOfIsReading = (text : List ℕ) (e : Expr) → (expression_of text ≡ Some e) ↔ HasReading text e

-- the call that a text is said to spell is the one whose tokens it has
abbrev pub CallOfIsSpelled : Type 0
CallOfIsSpelled = (text : List ℕ) (call : TextCall) → (call_of text ≡ Some call) ↔ SpellsCall text call
