use Rattle.std.proofs.Common.{◌≡◌, []}
use Rattle.json_exact.specs.Values.{ahead}
use Rattle.data_rows.specs.inner.Left.{rows_left, rows_after, room}
use Rattle.data_rows.proofs.text_rows.rows_ahead.Given as goal

abbrev pub invariant-loop-left : goal.invariant-loop-left
invariant-loop-left l = rows_after l.kinds.parse.now l.rows l.left ≡ rows_left l.kinds.parse.now [] (ahead l.fn.values)

abbrev pub decreases-loop-left : goal.decreases-loop-left
decreases-loop-left l = room l.left
