use Rattle.std.proofs.Common.{◌≡◌, ◌+◌, ◌-◌, ◌^◌, ◌≤◌, min, drop}
use Rattle.vega_copies.specs.Outlines.{count_marks}
use Rattle.vega_copies.specs.inner.Outlined.{marks_of}
use Rattle.vega_copies.proofs.tested.+counting_all.Given as goal

abbrev pub invariant-count_marks-loop-mark : goal.invariant-count_marks-loop-mark
invariant-count_marks-loop-mark l = record {
  counted : min (l.count + count_marks (marks_of (drop l.mark-index l.marks))) (2 ^ 64 - 1) ≡ min (count_marks (marks_of l.marks)) (2 ^ 64 - 1);
  few : l.count ≤ 2 ^ 64 - 1;
}
