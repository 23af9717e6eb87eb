use Rattle.vega_writing.specs.Marks.{mark_from_tree}
use Rattle.vega_writing.proofs.marks.facet_source.Goals as goal

pub returns : goal.returns
unfolding mark_from_tree
returns c = c.object.ensures _ (c.with-slots.ensures _ c.no_slots-slots.ensures)
