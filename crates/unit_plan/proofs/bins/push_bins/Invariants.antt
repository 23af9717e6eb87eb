use Rattle.std.proofs.Common.{◌≡◌, ◌++◌, drop}
use Rattle.std.specs.List.{flat_map}
use Rattle.unit_plan.specs.Bins.{bin_cuts}
use Rattle.unit_plan.specs.inner.LentShows.{shows_shown}
use Rattle.unit_plan.proofs.bins.push_bins.Given as goal

abbrev pub invariant-loop-shown : goal.invariant-loop-shown
invariant-loop-shown l =
    l.steps ++ flat_map bin_cuts (shows_shown (drop l.shown-index l.shows)) ≡ l.fn.steps ++ flat_map bin_cuts (shows_shown l.shows)
