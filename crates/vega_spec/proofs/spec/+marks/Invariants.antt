use Rattle.std.proofs.Common.{◌≡◌, take}
use Rattle.vega_spec.proofs.spec.+marks.Given as goal

abbrev pub invariant-copied_marks-loop-mark : goal.invariant-copied_marks-loop-mark
invariant-copied_marks-loop-mark l = l.out ≡ take l.mark-index l.mark-items
