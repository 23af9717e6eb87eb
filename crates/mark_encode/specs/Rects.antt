-- Rects.
use Rattle.std.specs.Prelude.{Option, Some, List}
use Rattle.fixed_num.specs.Ranges.{◌>>=◌}
use Rattle.cell_value.specs.Datum.{CellAt}
use Rattle.expr_eval.specs.Values.{Values}
use Rattle.scene_tree.specs.declared.shape.Shape.{Shape}
use Rattle.mark_shapes.specs.Rects.{rect_over}
use Rattle.mark_encode.specs.declared.channels.ChannelName.{ChannelName}
use Rattle.mark_encode.specs.declared.channels.ChannelName.TheVariants as name
use Rattle.mark_encode.specs.Channels.{ScaledValue}
use Rattle.mark_encode.specs.Spans.{AlongValues, span_for}

-- the channels of a mark by their names, put together
abbrev pub along_named : (ChannelName → List ScaledValue) → ChannelName → ChannelName → ChannelName → ChannelName → AlongValues
along_named channels near far middle size =
    record { near = channels near; far = channels far; middle = channels middle; size = channels size }

abbrev pub across_of : (ChannelName → List ScaledValue) → AlongValues
across_of channels = along_named channels name.X name.X2 name.Xc name.Width

abbrev pub down_of : (ChannelName → List ScaledValue) → AlongValues
down_of channels = along_named channels name.Y name.Y2 name.Yc name.Height

-- the rect of a row
abbrev pub rect_for : AlongValues → AlongValues → CellAt → Values → Option (Option Shape)
rect_for across down cells values = do
  x ← span_for cells values across
  y ← span_for cells values down
  Some (rect_over x y)
