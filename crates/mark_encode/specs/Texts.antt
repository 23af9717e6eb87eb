-- Texts. An outer None stands for a number out of range, an inner one for what is lacking.
use Rattle.std.specs.Prelude.{◌≡◌, refl, ℕ, ◌*◌, false, ℤ, pos, Option, Some, None, List, [], ◌∷◌, codes}
use Rattle.std.specs.Option.{option_map, option_or}
use Rattle.std.specs.Fmt.{digits as decimal_digits}
use Rattle.fixed_num.specs.Number.{million, rounded, floor_quotient}
use Rattle.fixed_num.specs.Ranges.{◌>>=◌}
use Rattle.fixed_num.specs.Decimal.{spelling, size_spelling, fraction_spelling, fraction_digits}
use Rattle.cell_value.specs.declared.cell.Cell.{Cell}
use Rattle.cell_value.specs.declared.cell.Cell.TheVariants as cell
use Rattle.cell_value.specs.Datum.{CellAt}
use Rattle.expr_eval.specs.Values.{Values}
use Rattle.expr_eval.specs.Plain.{no_values}
use Rattle.scene_tree.specs.declared.shape.Shape.{Shape}
use Rattle.scale_kit.specs.declared.scale.Scale.{Scale}
use Rattle.scale_kit.specs.declared.scale.Scale.TheVariants.{Ordinal}
use Rattle.guide_text.specs.Formats.{number_format_of}
use Rattle.guide_text.specs.Numbers.{formatted}
use Rattle.guide_text.specs.Labels.{label_of}
use Rattle.mark_shapes.specs.declared.shown.Shown.{Shown}
use Rattle.mark_shapes.specs.declared.texts.TextStyle.{TextStyle}
use Rattle.mark_shapes.specs.Texts.{style_of, text_by, words_of_cell}
use Rattle.mark_encode.specs.declared.channels.ChannelName.{ChannelName}
use Rattle.mark_encode.specs.declared.channels.ChannelName.TheVariants as name
use Rattle.mark_encode.specs.Channels.{ScaledValue}
use Rattle.mark_encode.specs.Values.{first_met, cell_for, number_by, color_on, shown_by, number_shown, color_shown, bare, on, amounts, amount_of_28}
use Rattle.mark_encode.specs.Values.{the_amount}
use Rattle.mark_encode.specs.Places.{PlaceValues, places_named, place_for}

-- a text as a cell
abbrev pub text_cell : Option (List ℕ) → Option Cell
text_cell text = option_map cell.Text text

-- the text on the scale that a value names, or else its cell
abbrev pub cell_on : Option Scale → Option ℤ → Option Cell → Option Cell
cell_on None band own = own
cell_on (Some s) band own = text_cell (color_on s own band)

-- the cell that a value with this cell shows: its number, if it gives one
abbrev pub cell_by : ScaledValue → Option Cell → Option (Option Cell)
cell_by v own = option_map (λ number. option_or (option_map cell.Number number) (cell_on v.scale v.value.band own)) (number_by false v own)

-- the words of a value for a row
abbrev pub words_for : CellAt → Values → ScaledValue → Option (Option (List ℕ))
words_for cells values v = do
  own ← cell_for cells values v.value
  shown ← cell_by v own
  Some (words_of_cell v.value.format shown)

-- the words that a channel shows of a row
abbrev pub words_shown : CellAt → Values → List ScaledValue → Option (Shown (List ℕ))
words_shown cells values vs = first_met cells values vs >>= shown_by (words_for cells values)

-- the values in the channels that say how a text is set
pub record StyleValues : Type 0 where
  pub size : List ScaledValue
  pub align : List ScaledValue
  pub baseline : List ScaledValue

-- the values in the channels of a text
pub record TextValues : Type 0 where
  pub across : PlaceValues
  pub down : PlaceValues
  pub dx : List ScaledValue
  pub dy : List ScaledValue
  pub style : StyleValues
  pub words : List ScaledValue

-- the channels of a mark by their names, put together
abbrev pub style_values_of : (ChannelName → List ScaledValue) → StyleValues
style_values_of channels = record { size = channels name.FontSize; align = channels name.Align; baseline = channels name.Baseline }

abbrev pub text_values_of : (ChannelName → List ScaledValue) → TextValues
text_values_of channels = record {
  across = places_named channels name.X name.Xc;
  down = places_named channels name.Y name.Yc;
  dx = channels name.Dx;
  dy = channels name.Dy;
  style = style_values_of channels;
  words = channels name.Text;
}

-- how the text of a row is set; the texts of `align` and `baseline` are shown as colours are
abbrev pub style_for : StyleValues → CellAt → Values → Option TextStyle
style_for channels cells values = do
  size ← number_shown false cells values channels.size
  align ← color_shown cells values channels.align
  baseline ← color_shown cells values channels.baseline
  Some (style_of size align baseline)

-- the text of a row; without a channel `text` it has no words
abbrev pub text_for : TextValues → CellAt → Values → Option (Option Shape)
text_for channels cells values = do
  x ← place_for cells values channels.across
  y ← place_for cells values channels.down
  dx ← number_shown false cells values channels.dx
  dy ← number_shown false cells values channels.dy
  style ← style_for channels.style cells values
  words ← words_shown cells values channels.words
  text_by style x y dx dy words

-- The rules at work, in millionths.

-- 28 is displayed, labelled, or moved; so is its place on a scale
words_of_numbers : (words_for amount_of_28 no_values (on None the_amount) ≡ Some (Some (codes "28")))
    × (words_for amount_of_28 no_values (on None (record the_amount { format = Some (codes ".1f") })) ≡ Some (Some (codes "28.0")))
    × (words_for amount_of_28 no_values (on None (record the_amount { offset = Some (pos (2 * million)) })) ≡ Some (Some (codes "30")))
    × (words_for amount_of_28 no_values (on (Some amounts) the_amount) ≡ Some (Some (codes "98.181818")))
unfolding rounded floor_quotient label_of number_format_of formatted spelling size_spelling fraction_spelling fraction_digits decimal_digits
words_of_numbers = (refl, refl, refl, refl)

-- a cell that is no number keeps its display, whatever the format; on a scale of texts it is the text there, if there is one
abbrev one_word : Scale
one_word = Ordinal (cell.Null ∷ []) (cell.Text (codes "none") ∷ [])

words_of_other_cells : (words_for amount_of_28 no_values (on None (record bare { value = Some cell.Null; format = Some (codes "d") }))
    ≡ Some (Some (codes "null")))
    × (words_for amount_of_28 no_values (on (Some one_word) (record bare { value = Some cell.Null })) ≡ Some (Some (codes "none")))
    × (words_for amount_of_28 no_values (on (Some one_word) the_amount) ≡ Some None)
    × (words_for amount_of_28 no_values (on None bare) ≡ Some None)
unfolding rounded floor_quotient label_of number_format_of
words_of_other_cells = (refl, refl, refl, refl)
