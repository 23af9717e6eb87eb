use Rattle.std.proofs.Common.{◌≡◌, drop, map}
use Rattle.std.specs.List.{list_any}
use Rattle.expr_syntax.specs.Expressions.{has_domain_length}
use Rattle.expr_syntax.proofs.domains.+domains.Given as goal

abbrev pub invariant-stands_in_any-loop-arg : goal.invariant-stands_in_any-loop-arg
invariant-stands_in_any-loop-arg l =
    list_any (λ arg. arg) (map has_domain_length (drop l.arg-index l.args)) ≡ list_any (λ arg. arg) (map has_domain_length l.args)
