use Rattle.vega_writing.specs.Domains.{reference_slots}
use Rattle.vega_writing.proofs.domains.ReferenceWritten.tree.Goals as goal

pub returns : goal.returns
unfolding reference_slots
returns c = c.object.ensures _ (c.with-slots-2.ensures _ (c.with-slots.ensures _ c.no_slots-slots.ensures))
