use Rattle.std.proofs.Common.{◌≡◌, drop}
use Rattle.vl_compose.specs.inner.Said.{said_among}
use Rattle.chart_plan.proofs.scales.said_among.Given as goal

abbrev pub invariant-loop-entry : goal.invariant-loop-entry
invariant-loop-entry l =
    said_among (drop l.entry-index l.entries) l.code ≡ said_among l.entries l.code
