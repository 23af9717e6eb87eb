use Rattle.std.proofs.Common.{◌≡◌, ◌++◌, drop, length}
use Rattle.std.specs.Vec.Iter.{into_iter_items}
use Rattle.plot_scenes.specs.Contents.{panels_at}
use Rattle.plot_scenes.proofs.contents.panels_at.Given as goal

abbrev pub invariant-loop-part : goal.invariant-loop-part
invariant-loop-part l =
    l.panels ++ panels_at l.padding (into_iter_items l.part-iterator) (drop (length l.panels) l.places)
    ≡ panels_at l.padding l.fn.parts l.places
