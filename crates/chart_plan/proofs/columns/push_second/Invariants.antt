use Rattle.std.proofs.Common.{◌≡◌, ◌++◌, drop, map}
use Rattle.unit_plan.specs.Cells.{cell_of}
use Rattle.chart_plan.proofs.columns.push_second.Given as goal

abbrev pub invariant-loop-definition : goal.invariant-loop-definition
invariant-loop-definition l =
    l.out ++ map (cell_of l.code) (map (λ d. d.now) (drop l.definition-index l.definitions)) ≡ l.fn.out ++ map (cell_of l.code) (map (λ d. d.now) l.definitions)
