use Rattle.std.proofs.Common.{◌≡◌, drop, find}
use Rattle.std.specs.List.{enumerate_from}
use Rattle.selection_events.specs.Brushes.{is_brushed, brushed_at}
use Rattle.selection_events.proofs.brushes.brushed_at.Given as goal

abbrev pub invariant-loop-at : goal.invariant-loop-at
invariant-loop-at l =
    find (λ p. is_brushed l.plots l.store p.1) (enumerate_from l.at (drop l.at l.panels)) ≡ brushed_at l.plots l.panels l.store
