use Rattle.vega_writing.specs.Guides.{legend_slots}
use Rattle.vega_writing.proofs.guides.LegendWritten.tree.Goals as goal

pub returns : goal.returns
unfolding legend_slots
returns c =
    c.object.ensures _ (c.with_if-slots-6.ensures _ (c.with_if-slots-5.ensures _ (c.with_if-slots-4.ensures _
    (c.with_if-slots-3.ensures _ (c.with_if-slots-2.ensures _ (c.with_if-slots.ensures _ c.no_slots-slots.ensures))))))
