use Rattle.std.proofs.Common.{ap, ◌∙◌}
use Rattle.cell_value.proofs.Place.{entries_seen}
use Rattle.cell_value.proofs.row.Row.entries.Goals as goal

pub returns : goal.returns
returns c =
    c.as_slice.ensures.value ∙ ap (λ v. v.items) c.as_ref.ensures ∙ entries_seen _ _ c.self.invariant _ c.self.view_is
