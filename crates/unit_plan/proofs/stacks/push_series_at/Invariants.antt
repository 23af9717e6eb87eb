use Rattle.std.proofs.Common.{◌≡◌, ◌++◌, drop}
use Rattle.std.specs.List.{flat_map}
use Rattle.unit_plan.specs.Stacks.{plain_at}
use Rattle.unit_plan.specs.inner.LentShows.{shows_shown}
use Rattle.unit_plan.proofs.stacks.push_series_at.Given as goal

abbrev pub invariant-loop-shown : goal.invariant-loop-shown
invariant-loop-shown l =
    l.names ++ flat_map (plain_at l.code) (shows_shown (drop l.shown-index l.shows)) ≡ l.fn.names ++ flat_map (plain_at l.code) (shows_shown l.shows)
