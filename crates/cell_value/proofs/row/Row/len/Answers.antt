use Rattle.std.proofs.Common.{arith, ap, length}
use Rattle.cell_value.proofs.Place.{len_seen}
use Rattle.cell_value.proofs.row.Row.len.Goals as goal

pub returns : goal.returns
returns c =
    grind (
      arith,
      c.len.ensures,
      ap (λ v. length v.items) c.as_ref.ensures,
      len_seen _ c.self.inside.cells.value.items c.self.invariant _ c.self.view_is,
    )
