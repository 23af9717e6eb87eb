use Rattle.std.proofs.Common.{◌≡◌, drop}
use Rattle.vl_trails.specs.Judging.{after}
use Rattle.vl_names.specs.Channels.{channels_faults}
use Rattle.vl_names.specs.inner.Looked.{known_shown}
use Rattle.vl_names.proofs.channels.judge_channels.Given as goal

abbrev pub invariant-loop-channel : goal.invariant-loop-channel
invariant-loop-channel l =
    after l.j (channels_faults (known_shown l.known) (drop l.channel-index l.channels) l.j.trail)
    ≡ after l.fn.j (channels_faults (known_shown l.known) l.channels l.fn.j.trail)
