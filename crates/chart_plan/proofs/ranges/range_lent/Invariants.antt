use Rattle.std.proofs.Common.{◌≡◌, drop, map}
use Rattle.vl_spec.specs.declared.scales.Scale.{Scale}
use Rattle.guide_infer.specs.First.{first_given}
use Rattle.chart_plan.proofs.ranges.range_lent.Given as goal

abbrev pub invariant-loop-one : goal.invariant-loop-one
invariant-loop-one l =
    first_given (λ (s : Scale). s.range) (map (λ s. s.now) (drop l.one-index l.said)) ≡ first_given (λ (s : Scale). s.range) (map (λ s. s.now) l.said)
