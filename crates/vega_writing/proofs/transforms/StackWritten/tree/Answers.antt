use Rattle.vega_writing.specs.Transforms.{stack_slots}
use Rattle.vega_writing.proofs.transforms.StackWritten.tree.Goals as goal

pub returns : goal.returns
unfolding stack_slots
returns c =
    c.object.ensures _ (c.with_if-slots-4.ensures _ (c.with_if-slots-3.ensures _ (c.with_if-slots-2.ensures _
    (c.with-slots.ensures _ (c.with_if-slots.ensures _ (c.with_word-slots.ensures _ c.no_slots-slots.ensures))))))
