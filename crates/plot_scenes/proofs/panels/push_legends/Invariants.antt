use Rattle.std.proofs.Common.{◌≡◌, ◌++◌}
use Rattle.std.specs.Vec.Iter.{into_iter_items}
use Rattle.plot_scenes.specs.Panels.{legend_panels}
use Rattle.plot_scenes.proofs.panels.push_legends.Given as goal

abbrev pub invariant-loop-block : goal.invariant-loop-block
invariant-loop-block l =
    l.panels ++ legend_panels l.x l.top (into_iter_items l.block-iterator) ≡ l.fn.panels ++ legend_panels l.x l.fn.y l.fn.blocks
