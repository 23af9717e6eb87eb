use Rattle.std.proofs.Common.{sym, ap, ◌∙◌}
use Rattle.scene_tree.specs.Outcome.{in_reach}
use Rattle.selection_events.specs.Brushes.{with_brushes}
use Rattle.vega_events.specs.Laws.{inverted_in}
use Rattle.plain_engine.proofs.pictures.scene_brushed.Goals as goal

pub returns-in-Ok : goal.returns-in-Ok
returns-in-Ok c =
    let plots = c.as_slice-2.ensures ∙ c.in_ok-plots.ensures in
    let selections = c.as_slice.ensures ∙ c.in_ok-selections.ensures in
    ap in_reach ((λ i. with_brushes (sym plots i) (inverted_in c.args.scales.now (sym selections i)) c.args.stores.now c.args.scene) ∙ c.in-Ok.ensures)

pub returns-in-Err-Overflow : goal.returns-in-Err-Overflow
returns-in-Err-Overflow c =
    let plots = c.as_slice-2.ensures ∙ c.in_ok-plots.ensures in
    let selections = c.as_slice.ensures ∙ c.in_ok-selections.ensures in
    let out = rw c.in-Err-Overflow.field-0-is at c.in-Err-Overflow.ensures in
    ap in_reach ((λ i. with_brushes (sym plots i) (inverted_in c.args.scales.now (sym selections i)) c.args.stores.now c.args.scene) ∙ out)
