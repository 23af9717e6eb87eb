use Rattle.std.proofs.Common.{◌≤◌}
use Rattle.plain_rows.specs.Rows.{keys_of}
use Rattle.call_table.specs.Numbered.{AreNumbered}
use Rattle.call_table.proofs.keys.keyed.Given as goal

abbrev pub invariant-loop-row : goal.invariant-loop-row
invariant-loop-row l = record { numbered : AreNumbered l.number (keys_of l.out); few : l.number ≤ 100002 }
