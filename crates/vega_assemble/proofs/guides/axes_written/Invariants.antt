use Rattle.std.proofs.Common.{◌≡◌, ◌++◌, drop, map}
use Rattle.vega_assemble.specs.Guides.{axis_written}
use Rattle.vega_assemble.proofs.guides.axes_written.Given as goal

abbrev pub invariant-loop-axis : goal.invariant-loop-axis
invariant-loop-axis l =
    l.out ++ map (axis_written l.stem l.scales) (drop l.axis-index l.axes) ≡ map (axis_written l.stem l.scales) l.axes
