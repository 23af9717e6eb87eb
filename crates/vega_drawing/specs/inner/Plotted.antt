-- What stands in a plot, step by step.
use Rattle.std.specs.Prelude.{ℕ, not, Bool, Option, Some, ◌++◌}
use Rattle.std.specs.Option.{option_map}
use Rattle.fixed_num.specs.Ranges.{◌>>=◌}
use Rattle.plot_scenes.specs.declared.axes.Axes.{Axes}
use Rattle.plot_scenes.specs.Axes.{axes_at}
use Rattle.plot_scenes.specs.declared.views.Plot.{Plot}
use Rattle.vega_copies.specs.Outlines.{Object, Marks}
use Rattle.vega_copies.specs.Facts.{Found}
use Rattle.vega_drawing.specs.Units.{in_unit_order}
use Rattle.vega_drawing.specs.Scales.{ScaleHere}
use Rattle.vega_drawing.specs.Frames.{Frame}
use Rattle.vega_drawing.specs.Insides.{ItemsOfMarks, Inside, with_guides, drawn_in}
use Rattle.vega_drawing.specs.Guides.{axes_over}
use Rattle.vega_drawing.specs.Plots.{scales_of_plot}

-- whether a scale belongs to each plot for itself
abbrev pub is_of_plot : ScaleHere → Bool
is_of_plot s = not s.is_of_chart

-- what is drawn in a plot, behind the axes of the grids round it
abbrev pub behind_axes : Frame → Inside → Inside
behind_axes frame inside = record inside { axes = axes_over frame.width frame.height frame.axes ++ inside.axes }

-- what stands in the plot of a copy of an object with these marks, its items in the order of the text
abbrev pub standing_in : ItemsOfMarks → Object → Marks → Found → Frame → Option Inside
standing_in items o marks found frame = option_map (behind_axes frame) (option_map (with_guides o frame) (drawn_in items marks found frame))

-- the plot of a copy with these axes, where this is drawn in it, and this is the least number of its marks
abbrev pub plot_with : Object → Option ℕ → Frame → Axes → Inside → Plot
plot_with o first frame axes inside = record {
  width = frame.width;
  height = frame.height;
  title = o.title;
  headers = frame.headers;
  axes = axes;
  items = in_unit_order inside.items;
  view = first;
  cells = frame.cells;
  legends = inside.legends;
  scales = scales_of_plot frame;
}

-- the same, each axis outside those before it; None where one is out of range
abbrev pub plot_round : Object → Option ℕ → Frame → Inside → Option Plot
plot_round o first frame inside = axes_at frame.width frame.height inside.axes >>= λ axes. Some (plot_with o first frame axes inside)
