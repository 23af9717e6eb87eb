use Rattle.std.proofs.Common.{◌≡◌, drop}
use Rattle.std.specs.List.{filter}
use Rattle.std.specs.Option.{option_map}
use Rattle.plot_scenes.specs.Axes.{and_then, axes_outside, runs_along}
use Rattle.plot_scenes.proofs.axes.axes_outside.Given as goal

-- the whole is what stands so far, and then the axes that are left outside it
abbrev pub invariant-loop-shown : goal.invariant-loop-shown
invariant-loop-shown l =
    axes_outside l.size.0 l.size.1 l.fn.before (filter (runs_along l.x) l.axes)
    ≡ option_map (and_then l.all) (axes_outside l.size.0 l.size.1 l.all.extents (filter (runs_along l.x) (drop l.shown-index l.axes)))
