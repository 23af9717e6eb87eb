use Rattle.std.proofs.Common.{◌≡◌, drop, map}
use Rattle.std.specs.List.{list_any}
use Rattle.scale_infer.specs.Types.{is_aggregated}
use Rattle.vl_rules.proofs.meant.any_is_aggregated.Given as goal

abbrev pub invariant-loop-definition : goal.invariant-loop-definition
invariant-loop-definition l =
    list_any is_aggregated (map (λ d. d.now) (drop l.definition-index l.definitions)) ≡ list_any is_aggregated (map (λ d. d.now) l.definitions)
