use Rattle.std.proofs.Common.{◌≡◌, ◌++◌, drop, map}
use Rattle.std.specs.List.{flat_map}
use Rattle.unit_plan.specs.Shows.{channel_shows}
use Rattle.unit_plan.specs.inner.LentShows.{shows_shown}
use Rattle.unit_plan.proofs.shows.push_own_shows.Given as goal

abbrev pub invariant-loop-channel : goal.invariant-loop-channel
invariant-loop-channel l =
    shows_shown l.out ++ flat_map channel_shows (map (λ c. c.now) (drop l.channel-index l.channel-items))
    ≡ shows_shown l.fn.out ++ flat_map channel_shows (map (λ c. c.now) l.channel-items)
