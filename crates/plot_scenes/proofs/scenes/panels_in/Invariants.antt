use Rattle.std.proofs.Common.{◌≡◌, ◌++◌, flat_map, length}
use Rattle.std.specs.List.{enumerate_from}
use Rattle.std.specs.Vec.Iter.{into_iter_items}
use Rattle.plot_scenes.specs.Scenes.{panels_in, scales_at}
use Rattle.plot_scenes.proofs.scenes.panels_in.Given as goal

abbrev pub invariant-loop-one : goal.invariant-loop-one
invariant-loop-one l =
    (l.panels ++ panels_in (into_iter_items l.one-iterator) ≡ panels_in l.fn.here)
    × (l.scales ++ flat_map scales_at (enumerate_from (length l.panels) (into_iter_items l.one-iterator))
    ≡ l.fn.scales ++ flat_map scales_at (enumerate_from 0 l.fn.here))
