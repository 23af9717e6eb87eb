use Rattle.std.proofs.Common.{◌≡◌, ◌++◌, drop, map}
use Rattle.guide_kit.specs.Axes.{tick_label}
use Rattle.guide_kit.proofs.axis_parts.push_tick_labels.Given as goal

abbrev pub invariant-loop-tick : goal.invariant-loop-tick
invariant-loop-tick l =
    let label = tick_label l.frame l.turned l.beyond in
    l.items ++ map label (drop l.tick-index l.ticks) ≡ l.fn.items ++ map label l.ticks
