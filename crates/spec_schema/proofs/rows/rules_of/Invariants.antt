use Rattle.std.proofs.Common.{◌≡◌, take, map}
use Rattle.spec_schema.specs.Rows.{rule_of}
use Rattle.spec_schema.proofs.rows.rules_of.Given as goal

abbrev pub invariant-loop-row : goal.invariant-loop-row
invariant-loop-row l = l.out ≡ map rule_of (take l.row-index l.rows)
