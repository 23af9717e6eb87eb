use Rattle.plain_rows.specs.Rows.{AreRows}
use Rattle.expression_tests.proofs.rows.answered.Given as goal

abbrev pub invariant-loop-step : goal.invariant-loop-step
invariant-loop-step l = AreRows l.rows
