use Rattle.std.proofs.Common.{◌≡◌, ◌++◌, ◌+◌, ◌≤◌, ◌^◌, length}
use Rattle.std.specs.Vec.Iter.{into_iter_items}
use Rattle.chart_opening.specs.Opening.{keyed_rows}
use Rattle.chart_opening.proofs.states.keyed_rows.Given as goal

abbrev pub invariant-loop-row : goal.invariant-loop-row
invariant-loop-row l =
    (l.keyed ++ keyed_rows l.id (into_iter_items l.row-iterator) ≡ keyed_rows l.fn.first l.fn.rows)
    × (l.id + length (into_iter_items l.row-iterator) ≤ 2 ^ 63)
