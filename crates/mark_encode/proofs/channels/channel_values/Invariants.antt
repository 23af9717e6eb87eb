use Rattle.std.proofs.Common.{◌≡◌, ◌++◌, drop, map}
use Rattle.mark_encode.specs.Channels.{with_scale}
use Rattle.mark_encode.specs.inner.Scaled.{scaled_all}
use Rattle.mark_encode.proofs.channels.channel_values.Given as goal

abbrev pub invariant-loop-value : goal.invariant-loop-value
invariant-loop-value l =
    scaled_all l.out ++ map (with_scale l.set) (drop l.value-index l.values) ≡ map (with_scale l.set) l.values
