use Rattle.std.proofs.Common.{◌≡◌, ◌++◌, drop, map}
use Rattle.chart_plan.proofs.shown.push_each.Given as goal

abbrev pub invariant-loop-definition : goal.invariant-loop-definition
invariant-loop-definition l =
    map (λ d. d.now) l.out ++ map (λ d. d.now) (drop l.definition-index l.more) ≡ map (λ d. d.now) l.fn.out ++ map (λ d. d.now) l.more
