use Rattle.std.proofs.Common.{◌≡◌, ◌++◌, drop, map}
use Rattle.chart_plan.specs.Columns.{own_cells}
use Rattle.chart_plan.proofs.columns.push_own.Given as goal

abbrev pub invariant-loop-definition : goal.invariant-loop-definition
invariant-loop-definition l =
    l.out ++ own_cells l.continuous l.channel l.stack (map (λ d. d.now) (drop l.definition-index l.definitions))
    ≡ l.fn.out ++ own_cells l.continuous l.channel l.stack (map (λ d. d.now) l.definitions)
