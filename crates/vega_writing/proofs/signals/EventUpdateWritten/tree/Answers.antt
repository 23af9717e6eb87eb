use Rattle.vega_writing.specs.Signals.{event_update_slots}
use Rattle.vega_writing.proofs.signals.EventUpdateWritten.tree.Goals as goal

pub returns : goal.returns
unfolding event_update_slots
returns c = c.object.ensures _ (c.with-slots-2.ensures _ (c.with-slots.ensures _ c.no_slots-slots.ensures))
