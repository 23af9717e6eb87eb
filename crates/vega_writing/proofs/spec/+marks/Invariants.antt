use Rattle.std.proofs.Common.{◌≡◌, ◌++◌, map, drop}
use Rattle.vega_writing.specs.Spec.{mark_tree}
use Rattle.vega_writing.proofs.spec.+marks.Given as goal

-- the trees so far, and then those that are left
abbrev pub invariant-push_marks-loop-mark : goal.invariant-push_marks-loop-mark
invariant-push_marks-loop-mark l = l.items ++ map mark_tree (drop l.mark-index l.marks) ≡ l.fn.items ++ map mark_tree l.marks
