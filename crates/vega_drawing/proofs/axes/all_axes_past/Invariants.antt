use Rattle.std.proofs.Common.{◌≡◌, ◌++◌, drop, map}
use Rattle.vega_drawing.specs.Scales.{axis_past}
use Rattle.vega_drawing.specs.inner.Kept.{axis_seen}
use Rattle.vega_drawing.proofs.axes.all_axes_past.Given as goal

abbrev pub invariant-loop-axis : goal.invariant-loop-axis
invariant-loop-axis l =
    map axis_seen l.out ++ map (axis_past l.spot) (map axis_seen (drop l.axis-index l.axes)) ≡ map (axis_past l.spot) (map axis_seen l.axes)
