use Rattle.vega_writing.specs.Groupings.{aggregate_slots}
use Rattle.vega_writing.proofs.groupings.aggregate_tree.Goals as goal

pub returns : goal.returns
unfolding aggregate_slots
returns c =
    c.object.ensures _ (c.with_if-slots-3.ensures _ (c.with_if-slots-2.ensures _ (c.with_tree_if-slots.ensures _ _
    (c.with_if-slots.ensures _ (c.with_word-slots.ensures _ c.no_slots-slots.ensures)) c.operations_tree_if.ensures)))
