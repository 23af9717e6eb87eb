-- The top of a specification, as the one copy of itself.
use Rattle.std.specs.Prelude.{◌≡◌, refl, not, Bool, true, false, pos, Option, Some, None, [], is_some, codes, if◌then◌else◌}
use Rattle.fixed_num.specs.Ranges.{◌>>=◌}
use Rattle.vega_spec.specs.declared.guides.Layout.{Layout}
use Rattle.vega_spec.specs.declared.scales.Range.TheVariants as range
use Rattle.vega_spec.specs.declared.scales.Scale.{Scale as VegaScale}
use Rattle.vega_spec.specs.declared.spec.Size.{Size}
use Rattle.vega_copies.specs.Outlines.{Object}
use Rattle.vega_copies.specs.Scopes.{Names}
use Rattle.vega_copies.specs.Facts.{Facts}
use Rattle.vega_drawing.specs.Sizes.{size_of}
use Rattle.vega_drawing.specs.Scales.{a_scale, is_sized}
use Rattle.vega_drawing.specs.Frames.{Frame, sizing_values, inside_of, as_grid}

-- A scale of the top belongs to the whole chart; but where the top has a layout, one whose range is the size of a plot stands once for each.
abbrev pub of_chart : Option Layout → VegaScale → Bool
of_chart layout s = if is_some layout then not (is_sized s.range) else true

-- round the top: nothing but what names stand for there
abbrev pub round_top : Names → Frame
round_top names = record {
  names = names;
  scales = [];
  axes = [];
  cells = None;
  headers = [];
  width = pos 0;
  height = pos 0;
  x = pos 0;
  y = pos 0;
}

-- the top as a plot, with its size
abbrev pub sized_top : Option Size → Option Size → Frame → Option Frame
sized_top width height frame = do
  w ← size_of (sizing_values frame) width
  h ← size_of (sizing_values frame) height
  Some (record frame { width = w; height = h })

-- the top with its size, where it is a plot; a grid has none
abbrev pub top_with_size : Option Size → Option Size → Object → Frame → Option Frame
top_with_size width height o frame = if is_some o.layout then Some (as_grid o frame) else sized_top width height frame

-- the top with these facts, as the one copy of itself
abbrev pub top_frame : Option Size → Option Size → Object → Facts → Option Frame
top_frame width height o facts = top_with_size width height o (inside_of (of_chart o.layout) (round_top facts.names) o facts)

-- The rules at work.

abbrev a_layout : Option Layout
a_layout = Some (record { padding = None; columns = None })

scales_of_the_whole_chart : (of_chart None (a_scale (codes "s") range.Width) ≡ true) × (of_chart a_layout (a_scale (codes "s") range.Width) ≡ false)
    × (of_chart a_layout (a_scale (codes "s") range.Category) ≡ true)
scales_of_the_whole_chart = (refl, refl, refl)
