use Rattle.vega_writing.proofs.trees.computed_tree.Goals as goal

pub returns : goal.returns
returns c = c.object.ensures _ (c.with-slots.ensures _ c.no_slots-slots.ensures)
