use Rattle.vega_writing.specs.Spec.{own_slots}
use Rattle.vega_writing.proofs.spec.own_slots.Goals as goal

pub returns : goal.returns
unfolding own_slots
returns c =
    c.with_if.ensures _ (c.with_if-slots-5.ensures _ (c.with_if-slots-4.ensures _ (c.with_if-slots-3.ensures _
    (c.with_if-slots-2.ensures _ (c.with_if-slots.ensures _ c.no_slots-slots.ensures)))))
