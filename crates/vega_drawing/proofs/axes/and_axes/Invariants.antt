use Rattle.std.proofs.Common.{◌≡◌, ◌++◌, drop, map}
use Rattle.vega_drawing.specs.Scales.{axes_here}
use Rattle.vega_drawing.specs.inner.Kept.{scale_seen, axis_seen}
use Rattle.vega_drawing.proofs.axes.and_axes.Given as goal

abbrev pub invariant-loop-axis : goal.invariant-loop-axis
invariant-loop-axis l =
    map axis_seen l.all ++ axes_here (map scale_seen l.scales) (drop l.axis-index l.axes)
    ≡ map axis_seen l.outer ++ axes_here (map scale_seen l.scales) l.axes
