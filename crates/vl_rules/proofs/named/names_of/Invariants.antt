use Rattle.std.proofs.Common.{◌≡◌, ◌++◌, drop, map}
use Rattle.std.specs.Prelude.{filter_map}
use Rattle.vl_rules.specs.Names.{cells_name}
use Rattle.vl_rules.proofs.named.names_of.Given as goal

abbrev pub invariant-loop-definition : goal.invariant-loop-definition
invariant-loop-definition l =
    l.names ++ filter_map (cells_name l.channel) (map (λ d. d.now) (drop l.definition-index l.definitions))
    ≡ filter_map (cells_name l.channel) (map (λ d. d.now) l.definitions)
