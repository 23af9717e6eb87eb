use Rattle.std.proofs.Common.{◌≡◌, ◌++◌, drop, flat_map, map}
use Rattle.vl_names.specs.Given.{given_by_view}
use Rattle.vl_names.specs.inner.Shown.{view_shown}
use Rattle.vl_names.proofs.given.push_by_views.Given as goal

abbrev pub invariant-loop-here : goal.invariant-loop-here
invariant-loop-here l =
    l.out ++ flat_map (given_by_view l.tree) (map view_shown (drop l.here-index l.views))
    ≡ l.fn.out ++ flat_map (given_by_view l.tree) (map view_shown l.views)
