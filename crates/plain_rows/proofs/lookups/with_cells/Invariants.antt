use Rattle.std.proofs.Common.{◌≡◌}
use Rattle.std.specs.Vec.Iter.{into_iter_items}
use Rattle.plain_rows.specs.Lookups.{with_cells}
use Rattle.plain_rows.proofs.lookups.with_cells.Given as goal

abbrev pub invariant-loop-name : goal.invariant-loop-name
invariant-loop-name l = with_cells l.made (into_iter_items l.name-iterator) ≡ with_cells l.row l.fn.cells
