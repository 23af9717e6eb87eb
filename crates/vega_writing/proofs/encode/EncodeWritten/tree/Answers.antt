use Rattle.vega_writing.specs.Encode.{encode_slots}
use Rattle.vega_writing.proofs.encode.EncodeWritten.tree.Goals as goal

pub returns : goal.returns
unfolding encode_slots
returns c = c.object.ensures _ (c.with_if-slots-2.ensures _ (c.with_if-slots.ensures _ c.no_slots-slots.ensures))
