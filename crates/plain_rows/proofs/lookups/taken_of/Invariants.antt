use Rattle.std.proofs.Common.{◌≡◌, ◌++◌, drop, map, zip}
use Rattle.cell_value.specs.Datum.{cell_at}
use Rattle.plain_rows.proofs.lookups.taken_of.Given as goal

abbrev pub invariant-loop-i : goal.invariant-loop-i
invariant-loop-i l = l.cells ++ zip (drop l.i l.how.outs) (map (cell_at l.row) (drop l.i l.how.fields)) ≡ zip l.how.outs (map (cell_at l.row) l.how.fields)
