use Rattle.std.proofs.Common.{◌≡◌}
use Rattle.json_exact.specs.Values.{ahead, most_ahead}
use Rattle.data_rows.specs.inner.Left.{bad_before}
use Rattle.data_rows.proofs.text_rows.bad_row.Given as goal

abbrev pub invariant-loop-others : goal.invariant-loop-others
invariant-loop-others l = bad_before l.row l.field (ahead l.left) ≡ bad_before l.row l.field (ahead l.behind)

abbrev pub decreases-loop-others : goal.decreases-loop-others
decreases-loop-others l = most_ahead l.left
