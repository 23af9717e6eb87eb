use Rattle.vega_writing.specs.Orders.{sort_slots}
use Rattle.vega_writing.proofs.orders.SortWritten.tree.Goals as goal

pub returns : goal.returns
unfolding sort_slots
returns c = c.object.ensures _ (c.with_if-slots.ensures _ (c.with-slots.ensures _ c.no_slots-slots.ensures))
