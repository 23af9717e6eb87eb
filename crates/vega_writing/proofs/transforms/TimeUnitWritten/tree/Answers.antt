use Rattle.vega_writing.specs.Transforms.{time_unit_slots}
use Rattle.vega_writing.proofs.transforms.TimeUnitWritten.tree.Goals as goal

pub returns : goal.returns
unfolding time_unit_slots
returns c =
    c.object.ensures _ (c.with_if-slots.ensures _ (c.with_tree-slots.ensures _ _ (c.with-slots.ensures _
    (c.with_word-slots.ensures _ c.no_slots-slots.ensures)) c.time_unit_tree.ensures))
