use Rattle.std.proofs.Common.{◌≡◌, ◌++◌, drop, map}
use Rattle.std.specs.List.{flat_map}
use Rattle.vega_assemble.specs.Mentioned.{in_expr}
use Rattle.vega_assemble.specs.inner.Lent.{lent}
use Rattle.vega_assemble.proofs.mentioned.+names.Given as goal

abbrev pub invariant-push_exprs-loop-arg : goal.invariant-push_exprs-loop-arg
invariant-push_exprs-loop-arg l =
    lent l.out ++ flat_map (λ arg. arg) (map in_expr (drop l.arg-index l.args)) ≡ lent l.fn.out ++ flat_map (λ arg. arg) (map in_expr l.args)
