use Rattle.std.proofs.Common.{◌≡◌, take, flat_map}
use Rattle.view_layout.specs.Layout.{plot_corner}
use Rattle.view_layout.proofs.layout.corners_of_plots.Given as goal

abbrev pub invariant-loop-one : goal.invariant-loop-one
invariant-loop-one l = l.out ≡ flat_map plot_corner (take l.one-index l.standing)
