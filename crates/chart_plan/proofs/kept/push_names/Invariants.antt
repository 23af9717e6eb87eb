use Rattle.std.proofs.Common.{◌≡◌, ◌++◌, drop, map}
use Rattle.std.specs.List.{filter_map}
use Rattle.chart_plan.specs.Selections.{kept_name}
use Rattle.chart_plan.proofs.kept.push_names.Given as goal

abbrev pub invariant-loop-definition : goal.invariant-loop-definition
invariant-loop-definition l =
    l.out ++ filter_map (kept_name l.interval l.code) (map (λ d. d.now) (drop l.definition-index l.definitions))
    ≡ l.fn.out ++ filter_map (kept_name l.interval l.code) (map (λ d. d.now) l.definitions)
