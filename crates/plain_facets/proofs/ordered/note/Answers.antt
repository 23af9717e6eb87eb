use Rattle.std.proofs.Common.{◌∙◌, sym, ap₂, cond, Some}
use Rattle.cell_value.specs.Cell.{same_cells}
use Rattle.cell_value.specs.inner.CellOrder.{same_cells_tell}
use Rattle.plain_facets.specs.inner.Besides.{beside_at}
use Rattle.plain_facets.proofs.MapLemmas.{found_stays, found_more}
use Rattle.plain_facets.proofs.ordered.note.Goals as goal

pub returns-in-Some : goal.returns-in-Some
returns-in-Some c q =
    found_stays same_cells (λ a b e. (same_cells_tell a b).0 e) (beside_at c.args.besides.now) c.args.pair.now.0 q _ c.args.pair.now.1 (sym c.in-Some.ensures)

pub returns-in_ok-put-in-None : goal.returns-in_ok-put-in-None
returns-in_ok-put-in-None c q =
    c.in_ok-put-in-None.ensures q
    ∙ ap₂ (λ cell beside. cond (same_cells cell q) (Some beside) (beside_at c.args.besides.now q)) c.in_ok-copy-in-None.ensures c.in_ok-copy-in-None-2.ensures
    ∙ found_more same_cells (λ a b e. (same_cells_tell a b).0 e) (beside_at c.args.besides.now) c.args.pair.now.0 q c.args.pair.now.1 (sym c.in-None.ensures)
