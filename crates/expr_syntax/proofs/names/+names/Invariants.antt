use Rattle.std.proofs.Common.{◌≡◌, ◌++◌, flat_map, map, take}
use Rattle.expr_syntax.specs.Names.{names_in}
use Rattle.expr_syntax.proofs.names.+names.Given as goal

abbrev pub invariant-push_all_names-loop-arg : goal.invariant-push_all_names-loop-arg
invariant-push_all_names-loop-arg l =
    map (λ n. n.now) l.names.items
    ≡ map (λ n. n.now) l.initial.names.items ++ flat_map (λ arg. arg) (map names_in (take l.arg-index l.args))
