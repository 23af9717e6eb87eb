use Rattle.std.proofs.Common.{◌≡◌, ◌++◌, drop}
use Rattle.std.specs.List.{enumerate_from, filter_map}
use Rattle.chart_plan.specs.Scales.{seen_if, seen_by}
use Rattle.chart_plan.proofs.scales.seen_by.Given as goal

abbrev pub invariant-loop-number : goal.invariant-loop-number
invariant-loop-number l =
    l.out ++ filter_map (seen_if l.unit) (enumerate_from l.number (drop l.number l.scales)) ≡ seen_by l.scales l.unit
