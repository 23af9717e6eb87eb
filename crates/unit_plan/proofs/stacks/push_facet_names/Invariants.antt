use Rattle.std.proofs.Common.{◌≡◌, ◌++◌, drop}
use Rattle.std.specs.List.{flat_map}
use Rattle.unit_plan.specs.Stacks.{name_in}
use Rattle.unit_plan.specs.Groups.{name_list}
use Rattle.unit_plan.specs.Shows.{ShownAt}
use Rattle.unit_plan.specs.inner.LentShows.{shows_shown}
use Rattle.unit_plan.proofs.stacks.push_facet_names.Given as goal

abbrev pub invariant-loop-shown : goal.invariant-loop-shown
invariant-loop-shown l =
    l.names ++ flat_map (λ (s : ShownAt). name_list (name_in s.channel s.shows)) (shows_shown (drop l.shown-index l.shows))
    ≡ l.fn.names ++ flat_map (λ (s : ShownAt). name_list (name_in s.channel s.shows)) (shows_shown l.shows)
