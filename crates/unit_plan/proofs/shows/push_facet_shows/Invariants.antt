use Rattle.std.proofs.Common.{◌≡◌, ◌++◌, drop}
use Rattle.std.specs.List.{flat_map}
use Rattle.vl_compose.specs.Rounds.{ViewAt}
use Rattle.vl_compose.specs.Shown.{round_shown}
use Rattle.unit_plan.specs.Shows.{kind_shows}
use Rattle.unit_plan.specs.inner.LentShows.{shows_shown}
use Rattle.unit_plan.proofs.shows.push_facet_shows.Given as goal

abbrev pub invariant-loop-here : goal.invariant-loop-here
invariant-loop-here l =
    shows_shown l.out ++ flat_map (λ (v : ViewAt). kind_shows v.kind) (round_shown (drop l.here-index l.here-items))
    ≡ shows_shown l.fn.out ++ flat_map (λ (v : ViewAt). kind_shows v.kind) (round_shown l.here-items)
