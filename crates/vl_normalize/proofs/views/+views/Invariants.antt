use Rattle.std.proofs.Common.{◌≡◌, ◌++◌, map, drop}
use Rattle.vl_normalize.specs.Normal.{normal_view}
use Rattle.vl_normalize.proofs.views.+views.Given as goal

abbrev pub invariant-normal_views-loop-view : goal.invariant-normal_views-loop-view
invariant-normal_views-loop-view l =
    l.out ++ map (λ view. normal_view view (map (λ c. c.now) l.around)) (drop l.view-index l.views)
    ≡ map (λ view. normal_view view (map (λ c. c.now) l.around)) l.views
