use Rattle.std.proofs.Common.{◌≡◌, drop}
use Rattle.std.specs.List.{fold}
use Rattle.vl_compose.specs.Shown.{round_shown}
use Rattle.chart_plan.specs.inner.Marked.{with_view}
use Rattle.chart_plan.proofs.marked.mark_round.Given as goal

abbrev pub invariant-loop-here : goal.invariant-loop-here
invariant-loop-here l = fold with_view l.marks (round_shown (drop l.here-index l.round)) ≡ fold with_view l.fn.marks (round_shown l.round)
