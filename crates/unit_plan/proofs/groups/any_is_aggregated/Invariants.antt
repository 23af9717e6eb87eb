use Rattle.std.proofs.Common.{◌≡◌, drop}
use Rattle.std.specs.List.{list_any}
use Rattle.scale_infer.specs.Types.{is_aggregated}
use Rattle.unit_plan.specs.Shows.{ShownAt}
use Rattle.unit_plan.specs.inner.LentShows.{shows_shown}
use Rattle.unit_plan.proofs.groups.any_is_aggregated.Given as goal

abbrev pub invariant-loop-shown : goal.invariant-loop-shown
invariant-loop-shown l =
    list_any (λ (s : ShownAt). is_aggregated s.shows) (shows_shown (drop l.shown-index l.shows))
    ≡ list_any (λ (s : ShownAt). is_aggregated s.shows) (shows_shown l.shows)
