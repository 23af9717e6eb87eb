use Rattle.std.proofs.Common.{◌≡◌, ◌++◌, drop, map}
use Rattle.guide_kit.specs.Axes.{tick_line}
use Rattle.guide_kit.proofs.axis_parts.push_tick_lines.Given as goal

abbrev pub invariant-loop-tick : goal.invariant-loop-tick
invariant-loop-tick l =
    l.items ++ map (tick_line l.frame) (drop l.tick-index l.ticks) ≡ l.fn.items ++ map (tick_line l.frame) l.ticks
