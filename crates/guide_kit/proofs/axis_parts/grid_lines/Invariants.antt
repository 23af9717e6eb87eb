use Rattle.std.proofs.Common.{◌≡◌, ◌++◌, drop, map}
use Rattle.guide_kit.specs.Axes.{grid_line}
use Rattle.guide_kit.proofs.axis_parts.grid_lines.Given as goal

abbrev pub invariant-loop-tick : goal.invariant-loop-tick
invariant-loop-tick l = l.items ++ map (grid_line l.frame) (drop l.tick-index l.ticks) ≡ map (grid_line l.frame) l.ticks
