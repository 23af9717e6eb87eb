use Rattle.std.proofs.Common.{◌≡◌, drop}
use Rattle.std.specs.Prelude.{fold}
use Rattle.expr_syntax.specs.declared.calls.Place.TheVariants.{Named}
use Rattle.expr_syntax.specs.inner.Calls.{place_after}
use Rattle.expr_syntax.proofs.calls.place_of.Given as goal

abbrev pub invariant-loop-token : goal.invariant-loop-token
invariant-loop-token l = fold place_after l.place (drop l.token-index l.tokens) ≡ fold place_after Named l.tokens
