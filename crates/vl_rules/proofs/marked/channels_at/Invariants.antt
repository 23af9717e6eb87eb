use Rattle.std.proofs.Common.{◌≡◌, drop, map}
use Rattle.std.specs.List.{fold}
use Rattle.vl_normalize.specs.Channels.{with_around}
use Rattle.vl_compose.specs.Shown.{round_shown}
use Rattle.vl_compose.specs.Units.{own_channels, channels_at}
use Rattle.vl_rules.proofs.marked.channels_at.Given as goal

abbrev pub invariant-loop-here : goal.invariant-loop-here
invariant-loop-here l =
    fold (λ around v. with_around (own_channels v.kind) around) (map (λ c. c.now) l.channels) (drop l.here-index (round_shown l.round))
    ≡ channels_at (round_shown l.round)
