use Rattle.std.proofs.Common.{◌≡◌, drop, map}
use Rattle.guide_infer.specs.Said.{first_field}
use Rattle.guide_infer.proofs.said.first_field.Given as goal

abbrev pub invariant-loop-definition : goal.invariant-loop-definition
invariant-loop-definition l =
    first_field (map (λ d. d.now) (drop l.definition-index l.definitions)) ≡ first_field (map (λ d. d.now) l.definitions)
