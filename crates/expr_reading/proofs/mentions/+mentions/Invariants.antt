use Rattle.std.proofs.Common.{◌≡◌, ◌++◌, flat_map, map, take}
use Rattle.expr_reading.specs.Mentions.{mentioned_in}
use Rattle.expr_reading.proofs.mentions.+mentions.Given as goal

abbrev pub invariant-push_all_names-loop-arg : goal.invariant-push_all_names-loop-arg
invariant-push_all_names-loop-arg l =
    map (λ n. n.now) l.names.items
    ≡ map (λ n. n.now) l.initial.names.items ++ flat_map (λ arg. arg) (map (mentioned_in l.kind) (take l.arg-index l.args))
