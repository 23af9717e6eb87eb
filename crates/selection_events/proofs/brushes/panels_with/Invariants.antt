use Rattle.std.proofs.Common.{◌≡◌, ◌++◌, map}
use Rattle.std.specs.List.{enumerate_from}
use Rattle.std.specs.Vec.Iter.{into_iter_items}
use Rattle.selection_events.specs.Brushes.{panel_with, panels_with, brush_item}
use Rattle.selection_events.proofs.brushes.panels_with.Given as goal

abbrev pub invariant-loop-panel : goal.invariant-loop-panel
invariant-loop-panel l =
    l.out ++ map (panel_with l.index (brush_item (l.spans.across.from, l.spans.across.size) (l.spans.down.from, l.spans.down.size)))
    (enumerate_from l.at (into_iter_items l.panel-iterator))
    ≡ panels_with l.fn.panels l.index (brush_item (l.spans.across.from, l.spans.across.size) (l.spans.down.from, l.spans.down.size))
