use Rattle.std.proofs.Common.{◌≡◌, drop, map}
use Rattle.chart_plan.specs.Ranges.{given_ends}
use Rattle.chart_plan.proofs.ranges.given_ends.Given as goal

abbrev pub invariant-loop-one : goal.invariant-loop-one
invariant-loop-one l =
    given_ends (map (λ s. s.now) (drop l.one-index l.said)) ≡ given_ends (map (λ s. s.now) l.said)
