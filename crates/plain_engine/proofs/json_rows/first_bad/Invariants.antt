use Rattle.std.proofs.Common.{◌≡◌, drop}
use Rattle.data_rows.specs.JsonRows.{first_bad}
use Rattle.plain_engine.proofs.json_rows.first_bad.Given as goal

abbrev pub invariant-loop-row : goal.invariant-loop-row
invariant-loop-row l = first_bad l.row (drop l.row l.trees) ≡ first_bad 0 l.trees
