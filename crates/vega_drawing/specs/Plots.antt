-- The plots of copies of objects.
use Rattle.std.specs.Prelude.{not, Option, Some, List, ◌++◌, map}
use Rattle.std.specs.Option.{option_map}
use Rattle.std.specs.List.{filter}
use Rattle.fixed_num.specs.Ranges.{◌>>=◌}
use Rattle.scale_kit.specs.declared.scale.ScaleIn.{ScaleIn}
use Rattle.plot_scenes.specs.declared.views.Plot.{Plot}
use Rattle.plot_scenes.specs.Axes.{axes_at}
use Rattle.vega_copies.specs.Outlines.{Object, Marks, first_unit}
use Rattle.vega_copies.specs.Facts.{Found}
use Rattle.vega_drawing.specs.Frames.{Frame}
use Rattle.vega_drawing.specs.Guides.{axes_over}
use Rattle.vega_drawing.specs.Insides.{ItemsOfMarks, with_guides, drawn_in}
use Rattle.vega_drawing.specs.Scales.{ScaleHere, scale_in}
use Rattle.vega_drawing.specs.Units.{in_unit_order}

-- the scales of a plot that aren't of the whole chart
abbrev pub scales_of_plot : Frame → List ScaleIn
scales_of_plot frame = map (scale_in frame.width frame.height) (filter (λ (s : ScaleHere). not s.is_of_chart) frame.scales)

-- The plot of a copy of an object with these marks in it: the axes of the grids round it, its own and those of the groups in it, each where
-- it stands; its items by the numbers of their marks; its own legends and those of the groups in it. None where a number is out of range.
abbrev pub plot_of : ItemsOfMarks → Object → Marks → Found → Frame → Option Plot
plot_of items o marks found frame = do
  inside ← option_map (with_guides o frame) (drawn_in items marks found frame)
  axes ← axes_at frame.width frame.height (axes_over frame.width frame.height frame.axes ++ inside.axes)
  Some (record {
    width = frame.width;
    height = frame.height;
    title = o.title;
    headers = frame.headers;
    axes = axes;
    items = in_unit_order inside.items;
    view = first_unit marks;
    cells = frame.cells;
    legends = inside.legends;
    scales = scales_of_plot frame;
  })
