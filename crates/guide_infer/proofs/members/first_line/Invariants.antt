use Rattle.std.proofs.Common.{◌≡◌, drop, map}
use Rattle.vl_spec.specs.declared.guides.Axis.{Axis}
use Rattle.guide_infer.specs.First.{first_given}
use Rattle.guide_infer.proofs.members.first_line.Given as goal

abbrev pub invariant-loop-one : goal.invariant-loop-one
invariant-loop-one l =
    first_given (λ (a : Axis). a.domain) (map (λ a. a.now) (drop l.one-index l.said)) ≡ first_given (λ (a : Axis). a.domain) (map (λ a. a.now) l.said)
