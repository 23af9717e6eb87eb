use Rattle.std.proofs.Common.{◌≡◌, drop, map}
use Rattle.std.specs.List.{list_any}
use Rattle.vl_rules.specs.Parts.{has_source}
use Rattle.vl_rules.proofs.meant.any_has_source.Given as goal

abbrev pub invariant-loop-definition : goal.invariant-loop-definition
invariant-loop-definition l =
    list_any has_source (map (λ d. d.now) (drop l.definition-index l.definitions)) ≡ list_any has_source (map (λ d. d.now) l.definitions)
