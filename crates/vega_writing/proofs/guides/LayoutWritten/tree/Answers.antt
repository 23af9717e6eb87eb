use Rattle.vega_writing.specs.Guides.{layout_slots}
use Rattle.vega_writing.proofs.guides.LayoutWritten.tree.Goals as goal

pub returns : goal.returns
unfolding layout_slots
returns c = c.object.ensures _ (c.with_if-slots-2.ensures _ (c.with_if-slots.ensures _ c.no_slots-slots.ensures))
