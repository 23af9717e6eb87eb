use Rattle.std.proofs.Common.{◌≡◌, ◌≤◌, drop, max}
use Rattle.guide_text.specs.Widths.{greatest_size}
use Rattle.guide_kit.specs.Axes.{widest, labels_of}
use Rattle.guide_kit.proofs.axis_parts.widest_label.Given as goal

abbrev pub invariant-loop-tick : goal.invariant-loop-tick
invariant-loop-tick l =
    (max l.most (widest 6 (labels_of (drop l.tick-index l.ticks))) ≡ widest 6 (labels_of l.ticks)) × (l.most ≤ greatest_size)
