use Rattle.std.proofs.Common.{◌≡◌, ◌++◌, map, drop}
use Rattle.mark_encode.specs.Orders.{data_of}
use Rattle.plain_engine.specs.inner.Rows.{entries_of_rows, seen}
use Rattle.plain_engine.proofs.rows.push_rows.Given as goal

abbrev pub invariant-loop-row : goal.invariant-loop-row
invariant-loop-row l =
    map seen l.out ++ entries_of_rows l.unit (data_of (drop l.row-index l.rows)) ≡ map seen l.initial.out ++ entries_of_rows l.unit (data_of l.rows)
