use Rattle.std.proofs.Common.{◌≡◌, ◌++◌, drop}
use Rattle.expr_syntax.specs.inner.Calls.{texts_in}
use Rattle.expr_syntax.proofs.calls.texts_in.Given as goal

abbrev pub invariant-loop-token : goal.invariant-loop-token
invariant-loop-token l = l.texts ++ texts_in (drop l.token-index l.tokens) ≡ texts_in l.tokens
