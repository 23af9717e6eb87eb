use Rattle.std.proofs.Common.{inl, inr}
use Rattle.view_layout.proofs.PlanLemmas.{ended}
use Rattle.view_layout.proofs.plan.+placing.Goals as goal

pub place_each-returns : goal.place_each-returns
place_each-returns t c =
    elim c.in-None.ensures.steps [
      | inl cells ↦ ended _ _ c.loop-cell.cell-iterator.a.rest.now c.loop-cell.cell-iterator.b.rest.now _ _ (inl cells.1.0)
          c.loop-cell.invariant
      | inr corners ↦ ended _ _ c.loop-cell.cell-iterator.a.rest.now c.loop-cell.cell-iterator.b.rest.now _ _ (inr corners.1.0)
          c.loop-cell.invariant
    ]
