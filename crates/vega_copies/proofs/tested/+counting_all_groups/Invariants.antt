use Rattle.std.proofs.Common.{◌≡◌, ◌+◌, ◌-◌, ◌^◌, ◌≤◌, min, drop}
use Rattle.vega_copies.specs.Outlines.{count_groups}
use Rattle.vega_copies.specs.inner.Outlined.{marks_of}
use Rattle.vega_copies.proofs.tested.+counting_all_groups.Given as goal

abbrev pub invariant-count_groups-loop-mark : goal.invariant-count_groups-loop-mark
invariant-count_groups-loop-mark l = record {
  counted : min (l.count + count_groups (marks_of (drop l.mark-index l.marks))) (2 ^ 64 - 1) ≡ min (count_groups (marks_of l.marks)) (2 ^ 64 - 1);
  few : l.count ≤ 2 ^ 64 - 1;
}
