use Rattle.std.proofs.Common.{◌≡◌, drop, map, ◌+◌, ◌*◌, ◌++◌}
use Rattle.std.specs.Prelude.{codes}
use Rattle.json_exact.specs.declared.json.Json.{size-Json}
use Rattle.vega_building.specs.Spec.{mark_of, marks_at}
use Rattle.vega_building.proofs.spec.+marks.Given as goal

abbrev pub decreases-push_mark_of : goal.decreases-push_mark_of
decreases-push_mark_of l = 6 * size-Json l.tree.now

abbrev pub decreases-push_object_mark : goal.decreases-push_object_mark
decreases-push_object_mark l = 6 * goal.size-push_object_mark l + 3

abbrev pub decreases-marks_at : goal.decreases-marks_at
decreases-marks_at l = 6 * goal.size-marks_at l + 2

abbrev pub decreases-marks_in : goal.decreases-marks_in
decreases-marks_in l = 6 * size-Json l.tree.now + 1

abbrev pub decreases-marks_of : goal.decreases-marks_of
decreases-marks_of l = 6 * goal.size-marks_of l + 2

abbrev pub decreases-push_marks : goal.decreases-push_marks
decreases-push_marks l = 6 * goal.size-push_marks l + 1

abbrev pub invariant-push_marks-loop-tree : goal.invariant-push_marks-loop-tree
invariant-push_marks-loop-tree l = l.marks ++ map mark_of (drop l.tree-index l.items) ≡ l.fn.marks ++ map mark_of l.items

abbrev pub invariant-marks_at-loop-member : goal.invariant-marks_at-loop-member
invariant-marks_at-loop-member l = marks_at (drop l.member-index l.members) (codes "marks") ≡ marks_at l.members (codes "marks")
