-- The copies of objects as they are drawn: what names and scales they have, how large their plot is, and where they stand in it.
use Rattle.std.specs.Prelude.{◌≡◌, refl, Bool, false, ℕ, ◌-◌, ℤ, pos, ◌+ℤ◌, Option, Some, None, unwrap_or, List, [], ◌∷◌, ◌++◌, codes}
use Rattle.std.specs.Option.{option_map}
use Rattle.fixed_num.specs.Number.{limit}
use Rattle.fixed_num.specs.Ranges.{◌>>=◌, in_range}
use Rattle.cell_value.specs.declared.cell.Cell.{Cell}
use Rattle.cell_value.specs.declared.cell.Cell.TheVariants.{Number, Text}
use Rattle.expr_eval.specs.Plain.{no_values}
use Rattle.expr_eval.specs.Values.{Values}
use Rattle.mark_encode.specs.declared.channels.ChannelName.{ChannelName}
use Rattle.mark_encode.specs.declared.channels.ChannelName.TheVariants as channel
use Rattle.mark_encode.specs.Groups.{number_encoded}
use Rattle.mark_encode.specs.Values.{bare as no_value}
use Rattle.vega_spec.specs.declared.encode.Channel.TheVariants.{One}
use Rattle.vega_spec.specs.declared.encode.ChannelValue.{ChannelValue}
use Rattle.vega_spec.specs.declared.scales.Scale.{Scale as VegaScale}
use Rattle.vega_copies.specs.Outlines.{Object, bare}
use Rattle.vega_copies.specs.Scopes.{Names, outermost}
use Rattle.vega_copies.specs.Facts.{Facts}
use Rattle.plot_scenes.specs.declared.headers.Header.{Header}
use Rattle.vega_drawing.specs.Scales.{ScaleHere, set_of, own_scales, and_outer, with_domains, AxisHere, axes_here}

-- A copy of an object: the top, or a copy of a group.
pub record Frame : Type 0 where
  -- what names stand for in it; a drawing itself reads the values of signals alone
  pub names : Names
  -- the scales that have names in it
  pub scales : List ScaleHere
  -- the axes of the objects with a layout round it, the outer before the inner
  pub axes : List AxisHere
  -- the cells of the facets round it by their fields, the outer before the inner; None outside facets
  pub cells : Option (List (List ℕ × Cell))
  -- the headers of the facets in whose grids it stands, the inner before the outer
  pub headers : List Header
  -- the size of its plot; of a grid that of what is round it, which is 0 by 0, since grids stand in grids alone
  pub width : ℤ
  pub height : ℤ
  -- how far its marks are moved in its plot
  pub x : ℤ
  pub y : ℤ

-- the cells of the facets round a copy and its own
abbrev pub more_cells : Option (List (List ℕ × Cell)) → Option (List (List ℕ × Cell)) → Option (List (List ℕ × Cell))
more_cells outer None = outer
more_cells None (Some own) = Some own
more_cells (Some outer) (Some own) = Some (outer ++ own)

-- the values from which sizes are computed: they alone may ask how long the domains of scales are
abbrev pub sizing_values : Frame → Values
sizing_values frame = with_domains frame.scales frame.names.values

-- The number that a group encodes in a channel, over the cells of the facets round it and its own, and the scales by their names; 0 where it
-- encodes none. None stands for a number out of range.
abbrev pub encoded_number : Frame → Object → ChannelName → Option ℤ
encoded_number frame o c =
    number_encoded (set_of frame.width frame.height frame.scales) o.encode c (unwrap_or frame.cells []) (sizing_values frame)

-- a copy of an object with these facts inside a frame, before its size and its place are known
abbrev pub inside_of : (VegaScale → Bool) → Frame → Object → Facts → Frame
inside_of is_of_chart outer o facts = record outer {
  names = facts.names;
  scales = and_outer outer.scales (own_scales is_of_chart o.scales facts.domains);
  cells = more_cells outer.cells facts.cells;
}

-- the frame of an object with a layout: its axes stand in the plots in it, after those of the objects round it
abbrev pub as_grid : Object → Frame → Frame
as_grid o frame = record frame { axes = frame.axes ++ axes_here frame.scales o.axes }

-- no scale of a group belongs to the whole chart
abbrev pub of_no_chart : VegaScale → Bool
of_no_chart s = false

-- a copy at the place that its group encodes, behind that of the plot round it
abbrev pub placed_at : Object → Frame → Option Frame
placed_at o frame = do
  dx ← encoded_number frame o channel.X
  dy ← encoded_number frame o channel.Y
  x ← in_range (frame.x +ℤ dx)
  y ← in_range (frame.y +ℤ dy)
  Some (record frame { x = x; y = y })

-- a copy of a group that draws in the plot round it: it is as large as the plot, and moved by the place that it encodes
abbrev pub moved_copy : Frame → Object → Facts → Option Frame
moved_copy outer o facts = placed_at o (inside_of of_no_chart outer o facts)

-- The rules at work.

-- a plot of 100 by 50
abbrev a_plot : Frame
a_plot = record {
  names = outermost no_values;
  scales = [];
  axes = [];
  cells = None;
  headers = [];
  width = pos 100;
  height = pos 50;
  x = pos 0;
  y = pos 0;
}

-- a group that encodes a place, so far to the right and so far down
abbrev so_far : ℕ → ChannelValue
so_far n = record no_value { value = Some (Number (pos n)) }

abbrev placed : ℕ → ℕ → Object
placed right down = record bare {
  encode = Some (record {
    enter = Some (record {
      x = Some (One (so_far right));
      x2 = None;
      xc = None;
      width = None;
      y = Some (One (so_far down));
      y2 = None;
      yc = None;
      height = None;
      fill = None;
      stroke = None;
      stroke_width = None;
      opacity = None;
      size = None;
      shape = None;
      text = None;
      align = None;
      baseline = None;
      dx = None;
      dy = None;
      font_size = None;
    });
    update = None;
  });
}

-- the facts of a copy with these cells, without scales
abbrev pub bare_facts : Option (List (List ℕ × Cell)) → Facts
bare_facts cells = record { cells = cells; names = outermost no_values; domains = [] }

-- a group in a group of a plot that is so far to the right already, the outer 3 to the right and 1 down, and the inner 4 and 2
abbrev moved_twice : ℕ → Option Frame
moved_twice right = moved_copy (record a_plot { x = pos right }) (placed 3 1) (bare_facts None) >>= λ outer. moved_copy outer (placed 4 2) (bare_facts None)

abbrev move_of : Frame → ℤ × ℤ
move_of frame = (frame.x, frame.y)

abbrev size_of_plot : Frame → ℤ × ℤ
size_of_plot frame = (frame.width, frame.height)

-- the moves add up, and the size stays; a second step may leave the range where the first doesn't
groups_in_each_other : (option_map move_of (moved_twice 0) ≡ Some (pos 7, pos 3))
    × (option_map size_of_plot (moved_twice 0) ≡ Some (pos 100, pos 50)) × (moved_twice (limit - 5) ≡ None)
groups_in_each_other = (refl, refl, refl)

-- the outer cell stands before the inner
abbrev cells_of : List ℕ → List ℕ → Option (List (List ℕ × Cell))
cells_of field cell = Some ((field, Text cell) ∷ [])

abbrev a_copy_in : Frame → Option (List (List ℕ × Cell)) → Frame
a_copy_in outer cells = inside_of of_no_chart outer bare (bare_facts cells)

cells_of_both : (a_copy_in (a_copy_in a_plot (cells_of (codes "a") (codes "y"))) (cells_of (codes "b") (codes "p"))).cells
    ≡ Some ((codes "a", Text (codes "y")) ∷ (codes "b", Text (codes "p")) ∷ [])
cells_of_both = refl
