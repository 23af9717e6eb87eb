use Rattle.std.proofs.Common.{◌≡◌, ◌++◌, drop, map, ◌+◌, ◌*◌}
use Rattle.std.specs.Prelude.{codes}
use Rattle.std.specs.List.{enumerate_from}
use Rattle.vl_building.specs.Views.{child, as_view, views_given, view_given, views_in}
use Rattle.vl_building.specs.inner.Named.{shown}
use Rattle.vl_building.specs.inner.Heads.{views_inside, inside_from}
use Rattle.vl_building.proofs.views.+views.Given as goal

abbrev pub decreases-view_of : goal.decreases-view_of
decreases-view_of l = 10 * goal.size-view_of l + 8

abbrev pub decreases-kind_by : goal.decreases-kind_by
decreases-kind_by l = 10 * goal.size-kind_by l + 7

abbrev pub decreases-joined_of : goal.decreases-joined_of
decreases-joined_of l = 10 * goal.size-joined_of l + 6

abbrev pub decreases-views_at : goal.decreases-views_at
decreases-views_at l = 10 * goal.size-views_at l + 5

abbrev pub decreases-view_at : goal.decreases-view_at
decreases-view_at l = 10 * goal.size-view_at l + 5

abbrev pub decreases-views_in : goal.decreases-views_in
decreases-views_in l = 10 * goal.size-views_in l + 1

abbrev pub invariant-views_at-loop-number : goal.invariant-views_at-loop-number
invariant-views_at-loop-number l = views_given (inside_from (shown l.named) l.number (drop l.number l.members) l.place l.name)
    ≡ views_given (views_inside (shown l.named) l.members l.place l.name)

abbrev pub invariant-view_at-loop-number : goal.invariant-view_at-loop-number
invariant-view_at-loop-number l = view_given (inside_from (shown l.named) l.number (drop l.number l.members) l.place (codes "spec"))
    ≡ view_given (views_inside (shown l.named) l.members l.place (codes "spec"))

abbrev pub invariant-views_in-loop-number : goal.invariant-views_in-loop-number
invariant-views_in-loop-number l =
    l.views ++ map (λ item. (item.1 (child l.place item.0)).0) (enumerate_from l.number (map (as_view (shown l.named)) (drop l.number l.items)))
    ≡ views_in (map (as_view (shown l.named)) l.items) l.place
