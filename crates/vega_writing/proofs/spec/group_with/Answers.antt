use Rattle.vega_writing.specs.Spec.{group_slots_here}
use Rattle.vega_writing.proofs.spec.group_with.Goals as goal

pub returns : goal.returns
unfolding group_slots_here
returns c trees given =
    c.with_if.ensures _ (c.with_if-slots-6.ensures _ (c.with_if-slots-5.ensures _ (c.with_tree_if-slots.ensures _ _
    (c.with_if-slots-4.ensures _ (c.with_if-slots-3.ensures _ (c.with_if-slots-2.ensures _ (c.with_if-slots.ensures _
    c.no_slots-slots.ensures)))) given)))
