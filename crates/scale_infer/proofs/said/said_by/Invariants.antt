use Rattle.std.proofs.Common.{◌≡◌, ◌++◌, drop, map}
use Rattle.scale_infer.specs.Said.{said_of}
use Rattle.scale_infer.proofs.said.said_by.Given as goal

abbrev pub invariant-loop-definition : goal.invariant-loop-definition
invariant-loop-definition l = l.said ++ map said_of (map (λ d. d.now) (drop l.definition-index l.definitions)) ≡ map said_of (map (λ d. d.now) l.definitions)
