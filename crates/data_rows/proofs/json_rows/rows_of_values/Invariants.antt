use Rattle.std.proofs.Common.{◌≡◌, map, drop}
use Rattle.data_rows.specs.Outcome.{all_rows}
use Rattle.data_rows.specs.JsonRows.{json_row}
use Rattle.data_rows.specs.inner.Ahead.{rows_then}
use Rattle.data_rows.proofs.json_rows.rows_of_values.Given as goal

abbrev pub invariant-loop-number : goal.invariant-loop-number
invariant-loop-number l =
    rows_then l.rows (all_rows l.number (map (json_row l.kinds.parse.now) (drop l.number l.trees))) ≡ all_rows 0 (map (json_row l.kinds.parse.now) l.trees)
