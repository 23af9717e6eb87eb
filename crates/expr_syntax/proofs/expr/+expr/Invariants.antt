use Rattle.std.proofs.Common.{◌≡◌, take}
use Rattle.expr_syntax.proofs.expr.+expr.Given as goal

abbrev pub invariant-Expr::copy-loop-argument : goal.invariant-Expr::copy-loop-argument
invariant-Expr::copy-loop-argument l = l.out ≡ take l.argument-index l.argument-items
