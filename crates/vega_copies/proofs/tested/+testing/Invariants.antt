use Rattle.std.proofs.Common.{◌≡◌, drop}
use Rattle.vega_copies.specs.inner.Tested.{are_objects}
use Rattle.vega_copies.specs.inner.Outlined.{marks_of}
use Rattle.vega_copies.proofs.tested.+testing.Given as goal

abbrev pub invariant-are_objects-loop-mark : goal.invariant-are_objects-loop-mark
invariant-are_objects-loop-mark l = are_objects (marks_of (drop l.mark-index l.marks)) ≡ are_objects (marks_of l.marks)
