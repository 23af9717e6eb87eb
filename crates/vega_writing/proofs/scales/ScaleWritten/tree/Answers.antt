use Rattle.vega_writing.specs.Scales.{scale_slots}
use Rattle.vega_writing.proofs.scales.ScaleWritten.tree.Goals as goal

pub returns : goal.returns
unfolding scale_slots
returns c =
    c.object.ensures _ (c.with_if-slots-6.ensures _ (c.with_if-slots-5.ensures _ (c.with_if-slots-4.ensures _
    (c.with_if-slots-3.ensures _ (c.with_if-slots-2.ensures _ (c.with_if-slots.ensures _ (c.with-slots-3.ensures _
    (c.with_tree_if-slots.ensures _ _ (c.with-slots-2.ensures _ (c.with_tree-slots.ensures _ _ (c.with-slots.ensures _
    c.no_slots-slots.ensures) c.scale_type_tree.ensures)) c.computed_tree_if.ensures))))))))
