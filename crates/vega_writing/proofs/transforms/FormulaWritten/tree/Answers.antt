use Rattle.vega_writing.specs.Transforms.{formula_slots}
use Rattle.vega_writing.proofs.transforms.FormulaWritten.tree.Goals as goal

pub returns : goal.returns
unfolding formula_slots
returns c =
    c.object.ensures _ (c.with-slots-2.ensures _ (c.with-slots.ensures _ (c.with_word-slots.ensures _
    c.no_slots-slots.ensures)))
