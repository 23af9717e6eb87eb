use Rattle.std.proofs.Common.{◌≡◌, drop, map}
use Rattle.chart_plan.specs.Domains.{domain_said}
use Rattle.chart_plan.proofs.domains.domain_said.Given as goal

abbrev pub invariant-loop-one : goal.invariant-loop-one
invariant-loop-one l =
    domain_said (map (λ s. s.now) (drop l.one-index l.said)) ≡ domain_said (map (λ s. s.now) l.said)
