use Rattle.vega_writing.specs.Groupings.{window_slots}
use Rattle.vega_writing.proofs.groupings.WindowWritten.tree.Goals as goal

pub returns : goal.returns
unfolding window_slots
returns c =
    c.object.ensures _ (c.with_if-slots-7.ensures _ (c.with_if-slots-6.ensures _ (c.with_if-slots-5.ensures _
    (c.with_if-slots-4.ensures _ (c.with_if-slots-3.ensures _ (c.with_if-slots-2.ensures _ (c.with_if-slots.ensures _
    (c.with_tree-slots.ensures _ _ (c.with_word-slots.ensures _ c.no_slots-slots.ensures) c.operations_tree.ensures))))))))
