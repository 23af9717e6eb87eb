use Rattle.std.proofs.Common.{◌≡◌, drop}
use Rattle.scale_infer.specs.declared.said.Said.{Said}
use Rattle.scale_infer.specs.Said.{first_given}
use Rattle.scale_infer.proofs.said.first_outer.Given as goal

abbrev pub invariant-loop-one : goal.invariant-loop-one
invariant-loop-one l = first_given (λ (s : Said). s.padding_outer) (drop l.one-index l.said) ≡ first_given (λ (s : Said). s.padding_outer) l.said
