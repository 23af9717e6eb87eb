use Rattle.std.proofs.Common.{◌≡◌, ◌+◌, drop}
use Rattle.vega_copies.specs.Outlines.{count_groups}
use Rattle.vega_copies.specs.inner.Outlined.{marks_of}
use Rattle.vega_copies.proofs.marks.+counting_groups.Given as goal

abbrev pub invariant-count_groups-loop-mark : goal.invariant-count_groups-loop-mark
invariant-count_groups-loop-mark l = l.count + count_groups (marks_of (drop l.mark-index l.marks)) ≡ count_groups (marks_of l.marks)
