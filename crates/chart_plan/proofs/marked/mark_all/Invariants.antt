use Rattle.std.proofs.Common.{◌≡◌, drop}
use Rattle.std.specs.List.{fold}
use Rattle.chart_plan.specs.inner.Marked.{with_mark}
use Rattle.chart_plan.proofs.marked.mark_all.Given as goal

abbrev pub invariant-loop-number : goal.invariant-loop-number
invariant-loop-number l = fold with_mark l.marks (drop l.number-index l.numbers) ≡ fold with_mark l.fn.marks l.numbers
