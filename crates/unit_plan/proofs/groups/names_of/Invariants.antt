use Rattle.std.proofs.Common.{◌≡◌, ◌++◌, drop}
use Rattle.std.specs.List.{flat_map}
use Rattle.unit_plan.specs.Groups.{grouped_by}
use Rattle.unit_plan.specs.inner.LentShows.{shows_shown}
use Rattle.unit_plan.proofs.groups.names_of.Given as goal

abbrev pub invariant-loop-shown : goal.invariant-loop-shown
invariant-loop-shown l =
    l.names ++ flat_map grouped_by (shows_shown (drop l.shown-index l.shows)) ≡ flat_map grouped_by (shows_shown l.shows)
