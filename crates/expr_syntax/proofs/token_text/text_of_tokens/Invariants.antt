use Rattle.std.proofs.Common.{◌≡◌, ◌++◌, drop}
use Rattle.expr_syntax.specs.TokenText.{text_after}
use Rattle.expr_syntax.proofs.token_text.text_of_tokens.Given as goal

abbrev pub invariant-loop-token : goal.invariant-loop-token
invariant-loop-token l =
    l.out ++ text_after l.after l.last (drop l.token-index l.others) ≡ l.initial.out ++ text_after l.initial.after l.initial.last l.others
