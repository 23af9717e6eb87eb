use Rattle.std.proofs.Common.{◌≡◌, ◌++◌, drop, map}
use Rattle.guide_infer.specs.Said.{with_legends}
use Rattle.guide_infer.proofs.said.with_legends.Given as goal

abbrev pub invariant-loop-definition : goal.invariant-loop-definition
invariant-loop-definition l =
    map (λ d. d.now) l.out ++ with_legends (map (λ d. d.now) (drop l.definition-index l.definitions)) ≡ with_legends (map (λ d. d.now) l.definitions)
