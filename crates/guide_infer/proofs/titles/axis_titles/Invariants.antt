use Rattle.std.proofs.Common.{◌≡◌, ◌++◌, drop, map}
use Rattle.std.specs.List.{filter_map}
use Rattle.guide_infer.specs.Titles.{axis_title}
use Rattle.guide_infer.proofs.titles.axis_titles.Given as goal

abbrev pub invariant-loop-definition : goal.invariant-loop-definition
invariant-loop-definition l = l.titles ++ filter_map axis_title (map (λ d. d.now) (drop l.definition-index l.definitions))
    ≡ filter_map axis_title (map (λ d. d.now) l.definitions)
