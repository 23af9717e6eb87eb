-- The top of a specification behind references, step by step.
use Rattle.std.specs.Prelude.{ℕ, Bool, ℤ, pos, Option, List, [], map}
use Rattle.std.specs.Option.{option_map}
use Rattle.std.specs.Borrow.{Bor}
use Rattle.cell_value.specs.declared.cell.Cell.{Cell}
use Rattle.fixed_num.specs.Ranges.{◌>>=◌}
use Rattle.expr_eval.specs.Values.{Values}
use Rattle.scale_kit.specs.declared.scale.ScaleSet.{ScaleSet}
use Rattle.vega_spec.specs.declared.guides.Layout.{Layout}
use Rattle.vega_spec.specs.declared.spec.Group.{out-Group}
use Rattle.vega_spec.specs.declared.spec.VgSpec.{VgSpec}
use Rattle.plot_scenes.specs.declared.headers.Header.{Header}
use Rattle.plot_scenes.specs.declared.scenes.Drawing.{Drawing}
use Rattle.plot_scenes.specs.declared.views.Placed.{Placed}
use Rattle.plot_scenes.specs.Scenes.{drawing_with}
use Rattle.plot_scenes.specs.Views.{placed_plot}
use Rattle.vega_copies.specs.declared.facts.CopyFacts.{CopyFacts, out-CopyFacts}
use Rattle.vega_copies.specs.declared.facts.Step.{Step}
use Rattle.vega_copies.specs.Outlines.{Opened, object_here}
use Rattle.vega_copies.specs.Scopes.{Names}
use Rattle.vega_copies.specs.inner.Kept.{KeepsAll}
use Rattle.vega_copies.specs.Facts.{Found}
use Rattle.vega_copies.specs.inner.FactsSeen.{ListsOnPaths, marks_seen, FactsFit}
use Rattle.vega_copies.specs.inner.Outlined.{marks_in, marks_of, marks_from}
use Rattle.vega_drawing.specs.declared.drawing.Top.{Top}
use Rattle.vega_drawing.specs.declared.frames.Frame.{Frame as HeldFrame}
use Rattle.vega_drawing.specs.declared.scales.AxisHere.{AxisHere as HeldAxis}
use Rattle.vega_drawing.specs.declared.scales.ScaleHere.{ScaleHere as HeldScale}
use Rattle.vega_drawing.specs.declared.values.ValuesAt.{ValuesAt}
use Rattle.vega_drawing.specs.Sizes.{padding_round}
use Rattle.vega_drawing.specs.Scales.{ScaleHere, AxisHere}
use Rattle.vega_drawing.specs.Frames.{Frame, as_grid}
use Rattle.vega_drawing.specs.Insides.{ItemsOfMarks}
use Rattle.vega_drawing.specs.Plots.{plot_of}
use Rattle.vega_drawing.specs.Tops.{round_top, sized_top, top_with_size}
use Rattle.vega_drawing.specs.Drawings.{scales_of_chart}
use Rattle.vega_drawing.specs.Views.{view_of}
use Rattle.vega_drawing.specs.inner.Framed.{cells_seen}
use Rattle.vega_drawing.specs.inner.Kept.{scale_seen, AreKeptScales}
use Rattle.vega_drawing.specs.inner.Levels.{values_over}
use Rattle.vega_drawing.specs.inner.Placed.{grid_of_object}

-- whether a scale belongs to the whole chart
abbrev pub is_of_chart : ScaleHere → Bool
is_of_chart s = s.is_of_chart

-- the top with the marks in it, by its members
abbrev pub top_of : VgSpec → Opened
top_of g = record { object = object_here (out-Group g.group); marks = marks_from 0 1 (marks_in (out-Group g.group)) }

-- the facts of the top fit it
abbrev pub TopFits : VgSpec → CopyFacts → Type 0
TopFits g facts = FactsFit (object_here (out-Group g.group)) (marks_of (marks_in (out-Group g.group))) facts

-- what names stand for at the top, where signals have these values, and what was found of its marks
abbrev pub names_on_top : ListsOnPaths → Values → Names
names_on_top lists values = record { lists = lists []; values = values }

abbrev pub found_on_top : ListsOnPaths → Values → CopyFacts → Found
found_on_top lists values facts = marks_seen lists [] values 0 (out-CopyFacts facts).inside

-- the top as the one copy of itself, with these scales and this size
abbrev pub held_top : Bor (List Step) → ValuesAt → Bor (List HeldScale) → Bor ScaleSet
    → Bor (List HeldAxis) → Option (Bor (List (List ℕ × Cell))) → Bor (List Header)
    → ℤ → ℤ → HeldFrame
held_top path values scales set axes cells headers width height = record {
  path = path;
  values = values;
  scales = scales;
  set = set;
  axes = axes;
  cells = cells;
  headers = headers;
  width = width;
  height = height;
  x = pos 0;
  y = pos 0;
}

-- the same, as definitions see it
abbrev pub top_seen : Names → Option (List (List ℕ × Cell)) → List ScaleHere → ℤ → ℤ → Frame
top_seen names cells scales width height = record (round_top names) { scales = scales; cells = cells; width = width; height = height }

-- the same of what is known of the top, and what was found of its marks
abbrev pub frame_of_top : ListsOnPaths → Top → ℤ → ℤ → Frame
frame_of_top lists top width height =
    top_seen (names_on_top lists (values_over top.values.stores.now top.values.levels.now)) (cells_seen top.cells) (map scale_seen top.scales.now) width height

abbrev pub found_in_top : ListsOnPaths → Top → Found
found_in_top lists top = found_on_top lists (values_over top.values.stores.now top.values.levels.now) top.facts.now

abbrev pub with_axes : List AxisHere → Frame → Frame
with_axes axes frame = record frame { axes = axes }

-- what holds of the top where it has these scales and facts
pub record IsTop (g : VgSpec) (held : List HeldScale) (facts : CopyFacts) : Type 0 where
  pub kept : KeepsAll g
  pub fits : TopFits g facts
  pub scales : AreKeptScales held

-- what is drawn of a view of the top
abbrev pub drawn_view : VgSpec → Frame → Placed → Option Drawing
drawn_view g frame view = drawing_with (padding_round g.padding) (scales_of_chart frame) view

-- what is drawn of the top where it is a plot of this size
abbrev pub drawn_plot : ItemsOfMarks → VgSpec → Found → Frame → Option Drawing
drawn_plot items g found frame = option_map placed_plot (plot_of items (top_of g).object (top_of g).marks found frame) >>= drawn_view g frame

-- the same with the size that it says
abbrev pub sized_plot : ItemsOfMarks → VgSpec → Found → Frame → Option Drawing
sized_plot items g found frame = sized_top g.width g.height frame >>= drawn_plot items g found

-- what is drawn of the top where it is a grid, with the axes in it
abbrev pub drawn_grid : ItemsOfMarks → VgSpec → Layout → Found → Frame → Option Drawing
drawn_grid items g l found frame = grid_of_object items (top_of g).object l (top_of g).marks found frame >>= drawn_view g frame

abbrev pub grid_with_axes : ItemsOfMarks → VgSpec → Layout → Found → Frame → Option Drawing
grid_with_axes items g l found frame = drawn_grid items g l found (as_grid (top_of g).object frame)

-- what is drawn of the top with its scales, before its size is known
abbrev pub drawn_top : ItemsOfMarks → VgSpec → Found → Frame → Option Drawing
drawn_top items g found frame =
    top_with_size g.width g.height (top_of g).object frame >>= λ here. view_of items (top_of g).object (top_of g).marks found here >>= drawn_view g here
