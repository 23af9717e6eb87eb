use Rattle.vega_writing.specs.Transforms.{filter_slots}
use Rattle.vega_writing.proofs.transforms.FilterWritten.tree.Goals as goal

pub returns : goal.returns
unfolding filter_slots
returns c = c.object.ensures _ (c.with-slots.ensures _ (c.with_word-slots.ensures _ c.no_slots-slots.ensures))
