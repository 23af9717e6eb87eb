use Rattle.std.proofs.Common.{◌≡◌, ◌++◌, drop, map}
use Rattle.std.specs.List.{filter_map}
use Rattle.guide_infer.specs.Titles.{legend_title}
use Rattle.guide_infer.proofs.titles.legend_titles.Given as goal

abbrev pub invariant-loop-definition : goal.invariant-loop-definition
invariant-loop-definition l = l.titles ++ filter_map legend_title (map (λ d. d.now) (drop l.definition-index l.definitions))
    ≡ filter_map legend_title (map (λ d. d.now) l.definitions)
