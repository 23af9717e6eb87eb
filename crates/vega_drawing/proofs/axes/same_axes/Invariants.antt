use Rattle.std.proofs.Common.{◌≡◌, ◌++◌, drop, map}
use Rattle.vega_drawing.specs.inner.Kept.{axis_seen}
use Rattle.vega_drawing.proofs.axes.same_axes.Given as goal

abbrev pub invariant-loop-axis : goal.invariant-loop-axis
invariant-loop-axis l = map axis_seen l.out ++ map axis_seen (drop l.axis-index l.axes) ≡ map axis_seen l.axes
