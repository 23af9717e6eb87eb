use Rattle.vega_writing.specs.Data.{data_set_slots}
use Rattle.vega_writing.proofs.data.DataSetWritten.tree.Goals as goal

pub returns : goal.returns
unfolding data_set_slots
returns c =
    c.object.ensures _ (c.with_if-slots-4.ensures _ (c.with_if-slots-3.ensures _ (c.with_if-slots-2.ensures _
    (c.with_if-slots.ensures _ (c.with_tree_if-slots.ensures _ _ (c.with-slots.ensures _ c.no_slots-slots.ensures)
    c.copied.ensures)))))
