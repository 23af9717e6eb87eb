use Rattle.std.proofs.Common.{◌≤◌, sym, ap, subst}
use Rattle.cell_value.specs.declared.state.Keyed.{Keyed}
use Rattle.cell_value.specs.Datum.{datum_of}
use Rattle.cell_value.specs.State.{greatest_id}
use Rattle.plain_engine.proofs.drawn_row.DrawnRow.of.Goals as goal

pub invariant_of-result : goal.invariant_of-result
invariant_of-result c = record { small = subst (λ (keyed : Keyed). keyed.key.id ≤ greatest_id) (sym c.in_ok-keyed.ensures) c.requires }

pub returns-clause-row : goal.returns-clause-row
returns-clause-row c = ap datum_of c.in_ok-keyed.ensures
