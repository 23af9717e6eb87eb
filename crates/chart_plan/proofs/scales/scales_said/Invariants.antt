use Rattle.std.proofs.Common.{◌≡◌, ◌++◌, drop, map}
use Rattle.chart_plan.specs.Scales.{scales_said}
use Rattle.chart_plan.proofs.scales.scales_said.Given as goal

abbrev pub invariant-loop-definition : goal.invariant-loop-definition
invariant-loop-definition l =
    map (λ s. s.now) l.out ++ scales_said (map (λ d. d.now) (drop l.definition-index l.definitions)) ≡ scales_said (map (λ d. d.now) l.definitions)
