use Rattle.vega_writing.specs.Data.{format_slots}
use Rattle.vega_writing.proofs.data.FormatWritten.tree.Goals as goal

pub returns : goal.returns
unfolding format_slots
returns c =
    c.object.ensures _ (c.with_tree_if-slots.ensures _ _ (c.with_if-slots.ensures _ c.no_slots-slots.ensures)
    c.parse_tree_if.ensures)
