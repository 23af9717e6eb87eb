use Rattle.vega_writing.specs.Transforms.{bin_extent_tree}
use Rattle.vega_writing.proofs.transforms.named_extent.Goals as goal

pub returns : goal.returns
unfolding bin_extent_tree
returns c = c.object.ensures _ (c.with-slots.ensures _ c.no_slots-slots.ensures)
