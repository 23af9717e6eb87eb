use Rattle.std.proofs.Common.{◌≡◌, drop, map}
use Rattle.vl_trails.specs.Judging.{after}
use Rattle.vl_names.specs.Channels.{channel_faults}
use Rattle.vl_names.specs.Filters.{each_item, items_from}
use Rattle.vl_names.specs.inner.Looked.{known_shown}
use Rattle.vl_names.proofs.channels.judge_several.Given as goal

abbrev pub invariant-loop-number : goal.invariant-loop-number
invariant-loop-number l =
    after l.j (items_from l.number (map (channel_faults (known_shown l.known)) (drop l.number l.channels)) l.j.trail)
    ≡ after l.fn.j (each_item (map (channel_faults (known_shown l.known)) l.channels) l.fn.j.trail)
