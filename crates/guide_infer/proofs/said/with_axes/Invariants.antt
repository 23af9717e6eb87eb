use Rattle.std.proofs.Common.{◌≡◌, ◌++◌, drop, map}
use Rattle.guide_infer.specs.Said.{with_axes}
use Rattle.guide_infer.proofs.said.with_axes.Given as goal

abbrev pub invariant-loop-definition : goal.invariant-loop-definition
invariant-loop-definition l =
    map (λ d. d.now) l.out ++ with_axes (map (λ d. d.now) (drop l.definition-index l.definitions)) ≡ with_axes (map (λ d. d.now) l.definitions)
