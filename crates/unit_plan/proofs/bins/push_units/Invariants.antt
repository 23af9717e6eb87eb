use Rattle.std.proofs.Common.{◌≡◌, ◌++◌, drop}
use Rattle.std.specs.List.{flat_map}
use Rattle.unit_plan.specs.Bins.{unit_cuts}
use Rattle.unit_plan.specs.inner.LentShows.{shows_shown}
use Rattle.unit_plan.proofs.bins.push_units.Given as goal

abbrev pub invariant-loop-shown : goal.invariant-loop-shown
invariant-loop-shown l =
    l.steps ++ flat_map unit_cuts (shows_shown (drop l.shown-index l.shows)) ≡ l.fn.steps ++ flat_map unit_cuts (shows_shown l.shows)
