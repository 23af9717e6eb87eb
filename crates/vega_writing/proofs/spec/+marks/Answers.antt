use Rattle.std.proofs.Common.{Some, None, map, refl, sym, ap, ◌∙◌}
use Rattle.vega_writing.specs.Spec.{mark_tree}
use Rattle.vega_writing.proofs.Answered.{answered}
use Rattle.vega_writing.proofs.Folded.{group_is, mark_is}
use Rattle.vega_writing.proofs.spec.+marks.Goals as goal

pub group_slots-returns-in-Some : goal.group_slots-returns-in-Some
group_slots-returns-in-Some t c =
    answered c.group_with.result _ _ (c.group_with.ensures (Some (map mark_tree c.as_slice.result.now)) (c.there.ensures _ c.marks_tree-tree.ensures))
    (group_is c.args.group.now (Some c.as_slice.result.now) (c.in-Some.is ∙ ap Some (sym c.as_slice.ensures)))

pub group_slots-returns-in-None : goal.group_slots-returns-in-None
group_slots-returns-in-None t c =
    answered c.group_with-in-None.result _ _ (c.group_with-in-None.ensures None refl) (group_is c.args.group.now None c.in-None.is)

pub mark_tree-returns : goal.mark_tree-returns
mark_tree-returns t c =
    answered c.mark_with.result _ _ (c.mark_with.ensures _ c.group_slots-inside.ensures) (mark_is c.args.mark.now)
