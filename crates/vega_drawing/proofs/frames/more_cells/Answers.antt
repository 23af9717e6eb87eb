use Rattle.std.proofs.Common.{◌≡◌, ◌∙◌, IfOk, Some, ap, subst}
use Rattle.vega_drawing.proofs.CellLemmas.{behind_outer, behind_none}
use Rattle.vega_drawing.proofs.frames.more_cells.Goals as goal

pub returns-in_ok-cells-in-Some : goal.returns-in_ok-cells-in-Some
returns-in_ok-cells-in-Some c = rw c.in-Some.is (ap Some c.in_ok-cells-in-Some.ensures ∙ behind_outer c.in-Some.outer.now c.args.own.now)

pub returns-in-None : goal.returns-in-None
returns-in-None c =
    rw c.in-None.is
    (subst (λ own. IfOk c.cells_copied.result (λ cells. cells ≡ own)) (c.slice_of.ensures ∙ behind_none c.args.own.now) c.cells_copied.ensures)
