use Rattle.vega_writing.specs.Marks.{cross_slots}
use Rattle.vega_writing.proofs.marks.CrossWritten.tree.Goals as goal

pub returns : goal.returns
unfolding cross_slots
returns c = c.object.ensures _ (c.with_if-slots.ensures _ c.no_slots-slots.ensures)
