use Rattle.std.proofs.Common.{◌≡◌, ◌+◌, drop}
use Rattle.vega_copies.specs.Outlines.{count_marks}
use Rattle.vega_copies.specs.inner.Outlined.{marks_of}
use Rattle.vega_copies.proofs.marks.+counting.Given as goal

abbrev pub invariant-count_marks-loop-mark : goal.invariant-count_marks-loop-mark
invariant-count_marks-loop-mark l = l.count + count_marks (marks_of (drop l.mark-index l.marks)) ≡ count_marks (marks_of l.marks)
