use Rattle.vega_writing.specs.Encode.{channels_slots}
use Rattle.vega_writing.proofs.encode.ChannelsWritten.tree.Goals as goal

pub returns : goal.returns
unfolding channels_slots
returns c =
    c.object.ensures _ (c.with_if-slots-20.ensures _ (c.with_if-slots-19.ensures _ (c.with_if-slots-18.ensures _
    (c.with_if-slots-17.ensures _ (c.with_if-slots-16.ensures _ (c.with_if-slots-15.ensures _ (c.with_if-slots-14.ensures _
    (c.with_if-slots-13.ensures _ (c.with_if-slots-12.ensures _ (c.with_if-slots-11.ensures _ (c.with_if-slots-10.ensures _
    (c.with_if-slots-9.ensures _ (c.with_if-slots-8.ensures _ (c.with_if-slots-7.ensures _ (c.with_if-slots-6.ensures _
    (c.with_if-slots-5.ensures _ (c.with_if-slots-4.ensures _ (c.with_if-slots-3.ensures _ (c.with_if-slots-2.ensures _
    (c.with_if-slots.ensures _ c.no_slots-slots.ensures))))))))))))))))))))
