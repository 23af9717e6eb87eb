use Rattle.std.specs.Vec.Iter.{into_iter_items}
use Rattle.cell_value.specs.Row.{row_of}
use Rattle.cell_value.proofs.RowLemmas.{Left}
use Rattle.cell_value.proofs.row.put_each.Given as goal

-- the entries in their places so far, and then what is left
abbrev pub invariant-loop-name : goal.invariant-loop-name
invariant-loop-name l = Left l.cells.items (into_iter_items l.name-iterator) (row_of l.fn.entries.items)
