use Rattle.std.proofs.Common.{◌≡◌, ◌++◌, drop}
use Rattle.std.specs.List.{flat_map}
use Rattle.unit_plan.specs.Groups.{ops_in}
use Rattle.unit_plan.specs.inner.LentShows.{shows_shown}
use Rattle.unit_plan.proofs.groups.ops_among.Given as goal

abbrev pub invariant-loop-shown : goal.invariant-loop-shown
invariant-loop-shown l =
    l.ops ++ flat_map ops_in (shows_shown (drop l.shown-index l.shows)) ≡ flat_map ops_in (shows_shown l.shows)
