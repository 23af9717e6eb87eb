use Rattle.vega_writing.specs.Spec.{mark_slots}
use Rattle.vega_writing.proofs.spec.mark_with.Goals as goal

pub returns : goal.returns
unfolding mark_slots
returns c made given =
    c.object.ensures _ (c.joined.ensures _ _ (c.with_if-slots-4.ensures _ (c.with_if-slots-3.ensures _
    (c.with_if-slots-2.ensures _ (c.with_if-slots.ensures _ (c.with-slots.ensures _ c.no_slots-slots.ensures))))) given)
