use Rattle.std.proofs.Common.{◌≡◌, ◌++◌, drop, flat_map, map}
use Rattle.vl_rules.specs.Names.{definition_groups}
use Rattle.vl_rules.proofs.named.push_all_groups.Given as goal

abbrev pub invariant-loop-definition : goal.invariant-loop-definition
invariant-loop-definition l =
    l.out ++ flat_map (definition_groups l.channel) (map (λ d. d.now) (drop l.definition-index l.definitions))
    ≡ l.fn.out ++ flat_map (definition_groups l.channel) (map (λ d. d.now) l.definitions)
