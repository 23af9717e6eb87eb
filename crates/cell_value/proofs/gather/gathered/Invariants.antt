use Rattle.std.proofs.Common.{◌≡◌}
use Rattle.std.specs.List.{fold}
use Rattle.std.specs.FinMap.{insert}
use Rattle.std.specs.Vec.Iter.{into_iter_items}
use Rattle.cell_value.specs.inner.Gather.{seen_row}
use Rattle.cell_value.specs.Row.{row_of}
use Rattle.cell_value.proofs.gather.gathered.Given as goal

-- what is gathered so far, and then what is left
abbrev pub invariant-loop-name : goal.invariant-loop-name
invariant-loop-name l =
    fold (λ row entry. insert row entry.0 entry.1) (seen_row l.cells.entries) (into_iter_items l.name-iterator) ≡ row_of l.fn.entries.items
