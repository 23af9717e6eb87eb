use Rattle.std.proofs.Common.{◌≡◌, ◌++◌, map, drop}
use Rattle.cell_value.specs.Datum.{datum_of}
use Rattle.plain_stacks.specs.Stacks.{amount}
use Rattle.plain_stacks.proofs.places.amounts.Given as goal

abbrev pub invariant-loop-row : goal.invariant-loop-row
invariant-loop-row l = l.amounts ++ map (λ row. amount l.field (datum_of row)) (drop l.row-index l.rows)
    ≡ map (λ row. amount l.field (datum_of row)) l.rows
