use Rattle.std.proofs.Common.{◌≡◌, ◌++◌, drop, map}
use Rattle.std.specs.List.{All}
use Rattle.plot_scenes.specs.Axes.{IsAxisShown}
use Rattle.vega_drawing.specs.Scales.{axes_here}
use Rattle.vega_drawing.specs.Guides.{axes_over}
use Rattle.vega_drawing.specs.inner.Kept.{scale_seen}
use Rattle.vega_drawing.proofs.axes.push_own_axes.Given as goal

abbrev pub invariant-loop-axis : goal.invariant-loop-axis
invariant-loop-axis l = record {
  value : l.out ++ axes_over l.width l.height (axes_here (map scale_seen l.scales) (drop l.axis-index l.axes))
      ≡ l.fn.out ++ axes_over l.width l.height (axes_here (map scale_seen l.scales) l.axes);
  kept : All IsAxisShown l.fn.out → All IsAxisShown l.out;
}
