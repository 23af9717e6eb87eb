use Rattle.vega_writing.specs.Transforms.{fold_slots}
use Rattle.vega_writing.proofs.transforms.FoldWritten.tree.Goals as goal

pub returns : goal.returns
unfolding fold_slots
returns c =
    c.object.ensures _ (c.with_if-slots.ensures _ (c.with-slots.ensures _ (c.with_word-slots.ensures _
    c.no_slots-slots.ensures)))
