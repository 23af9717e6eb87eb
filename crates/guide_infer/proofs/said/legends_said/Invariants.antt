use Rattle.std.proofs.Common.{◌≡◌, ◌++◌, drop, map}
use Rattle.guide_infer.specs.Said.{legends_said}
use Rattle.guide_infer.proofs.said.legends_said.Given as goal

abbrev pub invariant-loop-definition : goal.invariant-loop-definition
invariant-loop-definition l =
    map (λ d. d.now) l.out ++ legends_said (map (λ d. d.now) (drop l.definition-index l.definitions)) ≡ legends_said (map (λ d. d.now) l.definitions)
