use Rattle.vega_writing.proofs.spec.tree_of.Goals as goal

pub returns : goal.returns
returns c = c.object.ensures _ (c.joined.ensures _ _ c.group_slots-slots.ensures c.own_slots.ensures)
