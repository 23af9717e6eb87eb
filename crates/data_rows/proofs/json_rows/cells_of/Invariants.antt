use Rattle.std.proofs.Common.{◌≡◌, ◌++◌, drop}
use Rattle.data_rows.specs.JsonRows.{cells_of, parsed_fields}
use Rattle.data_rows.proofs.json_rows.cells_of.Given as goal

abbrev pub invariant-loop-member : goal.invariant-loop-member
invariant-loop-member l =
    l.cells.items ++ parsed_fields l.kinds.parse.now (cells_of (drop l.member-index l.members)) ≡ parsed_fields l.kinds.parse.now (cells_of l.members)
