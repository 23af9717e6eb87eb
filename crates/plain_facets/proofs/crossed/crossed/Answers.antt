use Rattle.std.proofs.Common.{◌∷◌, map}
use Rattle.plain_facets.proofs.ListLemmas.{flat_more}
use Rattle.plain_facets.proofs.crossed.crossed.Goals as goal

pub loop-cell-preserved : goal.loop-cell-preserved
loop-cell-preserved c =
    flat_more (λ cell. map (λ rest. cell ∷ rest) c.args.rests.now) c.args.cells.now c.loop-cell.cell-index c.cell-item.result _ _ c.loop-cell-test.true
    c.cell-item.is c.loop-cell.invariant c.in_ok-push_before.ensures
