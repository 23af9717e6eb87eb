-- One axis more.
use Rattle.std.specs.Prelude.{Bool, if◌then◌else◌, ℤ, Option, Some}
use Rattle.std.specs.Option.{option_map}
use Rattle.plot_scenes.specs.declared.axes.Axes.{Axes}
use Rattle.plot_scenes.specs.declared.axes.AxisShown.{AxisShown}
use Rattle.plot_scenes.specs.Axes.{and_then, axis_outside, runs_along}

-- some axes, and then one more where it runs along x, or along y
abbrev pub and_axis : ℤ → ℤ → Bool → Axes → AxisShown → Option Axes
and_axis width height x all a = if runs_along x a then option_map (and_then all) (axis_outside width height all.extents a) else Some all
