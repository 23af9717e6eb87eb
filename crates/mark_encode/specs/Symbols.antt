-- Symbols. An outer None stands for a number out of range, an inner one for what is lacking.
use Rattle.std.specs.Prelude.{false, Option, List}
use Rattle.fixed_num.specs.Ranges.{◌>>=◌}
use Rattle.cell_value.specs.Datum.{CellAt}
use Rattle.expr_eval.specs.Values.{Values}
use Rattle.scene_tree.specs.declared.shape.Shape.{Shape}
use Rattle.mark_shapes.specs.Symbols.{side_shown, symbol_of, symbol_with}
use Rattle.mark_encode.specs.declared.channels.ChannelName.{ChannelName}
use Rattle.mark_encode.specs.declared.channels.ChannelName.TheVariants as name
use Rattle.mark_encode.specs.Channels.{ScaledValue}
use Rattle.mark_encode.specs.Values.{number_shown, color_shown}
use Rattle.mark_encode.specs.Places.{PlaceValues, places_named, place_for}

-- the values in the channels of a symbol
pub record SymbolValues : Type 0 where
  pub across : PlaceValues
  pub down : PlaceValues
  pub size : List ScaledValue
  pub shape : List ScaledValue

-- the channels of a mark by their names, put together
abbrev pub symbol_values_of : (ChannelName → List ScaledValue) → SymbolValues
symbol_values_of channels = record {
  across = places_named channels name.X name.Xc;
  down = places_named channels name.Y name.Yc;
  size = channels name.Size;
  shape = channels name.Shape;
}

-- the symbol of a row; the text of its form is shown as a colour is
abbrev pub symbol_for : SymbolValues → CellAt → Values → Option (Option Shape)
symbol_for channels cells values = do
  x ← place_for cells values channels.across
  y ← place_for cells values channels.down
  size ← number_shown false cells values channels.size
  form ← color_shown cells values channels.shape
  symbol_with (symbol_of form) (side_shown size) x y
