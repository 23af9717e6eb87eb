use Rattle.std.proofs.Common.{◌≡◌, drop, find}
use Rattle.plain_engine.specs.inner.Rows.{has_unit_and_key}
use Rattle.plain_engine.proofs.rows.row_named.Given as goal

abbrev pub invariant-loop-row : goal.invariant-loop-row
invariant-loop-row l = find (has_unit_and_key l.unit l.key) (drop l.row-index l.rows) ≡ find (has_unit_and_key l.unit l.key) l.rows
