use Rattle.std.proofs.Common.{◌≡◌, ◌+◌, ◌≤◌, drop}
use Rattle.chart_opening.specs.Opening.{count_rows}
use Rattle.chart_opening.proofs.rows.count_rows.Given as goal

abbrev pub invariant-loop-source : goal.invariant-loop-source
invariant-loop-source l = (l.count + count_rows (drop l.source-index l.rows) ≡ count_rows l.rows) × (l.count ≤ 200000)
