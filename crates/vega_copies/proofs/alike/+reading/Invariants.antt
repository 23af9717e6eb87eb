use Rattle.std.proofs.Common.{◌≡◌, drop}
use Rattle.vega_copies.specs.inner.Alike.{all_read_none}
use Rattle.vega_copies.specs.inner.Outlined.{marks_of}
use Rattle.vega_copies.proofs.alike.+reading.Given as goal

abbrev pub invariant-all_read_none-loop-mark : goal.invariant-all_read_none-loop-mark
invariant-all_read_none-loop-mark l = all_read_none l.names (marks_of (drop l.mark-index l.marks)) ≡ all_read_none l.names (marks_of l.marks)
