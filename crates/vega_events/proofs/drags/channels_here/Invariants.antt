use Rattle.std.proofs.Common.{◌≡◌, ◌++◌, drop, map}
use Rattle.selection_events.specs.Events.{channel_here}
use Rattle.vega_events.specs.Scales.{inverted_by}
use Rattle.vega_events.proofs.drags.channels_here.Given as goal

abbrev pub invariant-loop-d : goal.invariant-loop-d
invariant-loop-d l =
    l.out ++ map (channel_here (inverted_by l.set l.v) l.index l.v.selection) (drop l.d-index l.drag)
    ≡ map (channel_here (inverted_by l.set l.v) l.index l.v.selection) l.drag
