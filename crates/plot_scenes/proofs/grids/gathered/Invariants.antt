use Rattle.std.proofs.Common.{◌≡◌, ◌++◌, map, flat_map}
use Rattle.std.specs.Vec.Iter.{into_iter_items}
use Rattle.plot_scenes.specs.declared.views.Placed.{Placed}
use Rattle.plot_scenes.proofs.grids.gathered.Given as goal

abbrev pub invariant-loop-view : goal.invariant-loop-view
invariant-loop-view l =
    (l.boxes ++ map (λ (v : Placed). v.boxes) (into_iter_items l.view-iterator) ≡ map (λ (v : Placed). v.boxes) l.fn.views)
    × (l.parts ++ flat_map (λ (v : Placed). v.parts) (into_iter_items l.view-iterator)
    ≡ l.fn.parts ++ flat_map (λ (v : Placed). v.parts) l.fn.views)
    × (l.legends ++ flat_map (λ (v : Placed). v.legends) (into_iter_items l.view-iterator)
    ≡ l.fn.legends ++ flat_map (λ (v : Placed). v.legends) l.fn.views)
