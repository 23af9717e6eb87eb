use Rattle.std.proofs.Common.{◌≡◌, drop}
use Rattle.selection_events.specs.Brushes.{all_brushed}
use Rattle.selection_events.proofs.brushes.all_brushed.Given as goal

abbrev pub invariant-loop-store : goal.invariant-loop-store
invariant-loop-store g l =
    all_brushed l.plots (g.S.DragScales.inverts l.scales) (drop l.store-index l.stores) l.now
    ≡ all_brushed l.plots (g.S.DragScales.inverts l.scales) l.stores l.fn.panels
