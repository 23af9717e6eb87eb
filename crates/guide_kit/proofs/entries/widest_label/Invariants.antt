use Rattle.std.proofs.Common.{◌≡◌, ◌≤◌, drop, max}
use Rattle.guide_text.specs.Widths.{greatest_size}
use Rattle.guide_kit.specs.Axes.{widest}
use Rattle.guide_kit.specs.Legends.{labels_in}
use Rattle.guide_kit.proofs.entries.widest_label.Given as goal

abbrev pub invariant-loop-entry : goal.invariant-loop-entry
invariant-loop-entry l =
    (max l.most (widest 6 (labels_in (drop l.entry-index l.entries))) ≡ widest 6 (labels_in l.entries)) × (l.most ≤ greatest_size)
