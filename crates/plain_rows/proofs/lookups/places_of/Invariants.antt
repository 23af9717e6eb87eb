use Rattle.std.proofs.Common.{◌≡◌, drop}
use Rattle.cell_value.specs.declared.cell.Cell.{Cell}
use Rattle.cell_value.specs.Datum.{cell_at}
use Rattle.plain_rows.specs.Lookups.{last_with}
use Rattle.plain_rows.specs.inner.Places.{place_row, later}
use Rattle.plain_rows.proofs.lookups.places_of.Given as goal

abbrev pub invariant-loop-at : goal.invariant-loop-at
invariant-loop-at l = (c : Cell)
    → later (λ row. cell_at row l.key) c (place_row l.places l.rows c) (drop l.at l.rows) ≡ last_with (λ row. cell_at row l.key) c l.rows
