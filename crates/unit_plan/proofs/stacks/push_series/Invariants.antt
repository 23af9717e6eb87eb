use Rattle.std.proofs.Common.{◌≡◌, ◌++◌, drop}
use Rattle.std.specs.List.{flat_map}
use Rattle.unit_plan.specs.Stacks.{plain_at}
use Rattle.unit_plan.specs.inner.LentShows.{shows_shown}
use Rattle.unit_plan.proofs.stacks.push_series.Given as goal

abbrev pub invariant-loop-code : goal.invariant-loop-code
invariant-loop-code l =
    l.names ++ flat_map (λ code. flat_map (plain_at code) (shows_shown l.shows)) (drop l.code-index l.channels)
    ≡ l.fn.names ++ flat_map (λ code. flat_map (plain_at code) (shows_shown l.shows)) l.channels
