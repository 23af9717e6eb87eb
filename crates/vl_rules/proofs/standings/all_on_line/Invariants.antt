use Rattle.std.proofs.Common.{◌≡◌, drop, map}
use Rattle.std.specs.List.{list_all}
use Rattle.scale_infer.specs.Types.{is_continuous, type_of}
use Rattle.vl_rules.proofs.standings.all_on_line.Given as goal

abbrev pub invariant-loop-definition : goal.invariant-loop-definition
invariant-loop-definition l =
    list_all (λ d. is_continuous (type_of d)) (map (λ d. d.now) (drop l.definition-index l.definitions))
    ≡ list_all (λ d. is_continuous (type_of d)) (map (λ d. d.now) l.definitions)
