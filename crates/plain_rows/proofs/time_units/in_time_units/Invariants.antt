use Rattle.std.proofs.Common.{◌≡◌, take}
use Rattle.plain_rows.specs.TimeUnits.{in_time_units}
use Rattle.plain_rows.proofs.time_units.in_time_units.Given as goal

abbrev pub invariant-loop-row : goal.invariant-loop-row
invariant-loop-row l = l.out ≡ in_time_units l.t (take l.row-index l.rows)
