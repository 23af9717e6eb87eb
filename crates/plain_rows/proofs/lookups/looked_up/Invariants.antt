use Rattle.std.proofs.Common.{◌≡◌, ◌++◌, drop}
use Rattle.plain_rows.specs.Lookups.{looked_up}
use Rattle.plain_rows.proofs.lookups.looked_up.Given as goal

abbrev pub invariant-loop-row : goal.invariant-loop-row
invariant-loop-row l = l.out ++ looked_up l.how l.other (drop l.row-index l.rows) ≡ looked_up l.how l.other l.rows
