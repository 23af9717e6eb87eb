use Rattle.std.proofs.Common.{◌≡◌, ◌++◌, map}
use Rattle.std.specs.Vec.Iter.{into_iter_items}
use Rattle.plot_scenes.specs.Scenes.{scale_at}
use Rattle.plot_scenes.proofs.scenes.push_scales.Given as goal

abbrev pub invariant-loop-s : goal.invariant-loop-s
invariant-loop-s l =
    l.scales ++ map (scale_at l.index) (into_iter_items l.s-iterator) ≡ l.fn.scales ++ map (scale_at l.index) l.fn.own
