-- What channels show. A cell of a row is a field, or a value that is written; a null that is written is one that is computed, since a written null
-- at a far end would mean the base. A place has the scale and the cell, the middle of a band half a band more, the end of a band one band more; the base is a
-- written null on the scale. The middle and the foot of a plot are the place of 0 on a scale over 0 alone, and on one from 0 to 1. Several ways are a list of
-- values with their tests, one way stands alone, and no way leaves the channel out.
use Rattle.std.specs.Prelude.{◌≡◌, refl, ℕ, ℤ, pos, Option, Some, None, List, [], ◌∷◌, map}
use Rattle.fixed_num.specs.Number.{million}
use Rattle.cell_value.specs.declared.cell.Cell.{Cell}
use Rattle.cell_value.specs.declared.cell.Cell.TheVariants as cell
use Rattle.expr_syntax.specs.declared.expr.Expr.{Expr}
use Rattle.expr_syntax.specs.declared.expr.Expr.TheVariants as expr
use Rattle.vega_spec.specs.declared.encode.Channel.{Channel}
use Rattle.vega_spec.specs.declared.encode.Channel.TheVariants.{One, Several}
use Rattle.vega_spec.specs.declared.encode.ChannelValue.{ChannelValue}
use Rattle.plan_kit.specs.declared.cells.CellOf.{CellOf}
use Rattle.plan_kit.specs.declared.cells.CellOf.TheVariants as shows
use Rattle.plan_kit.specs.declared.marks.Look.{Look}
use Rattle.plan_kit.specs.declared.marks.Look.TheVariants as look
use Rattle.plan_kit.specs.declared.marks.LookWay.{LookWay}
use Rattle.plan_kit.specs.declared.marks.Spot.{Spot}
use Rattle.plan_kit.specs.declared.marks.Spot.TheVariants as spot
use Rattle.plan_kit.specs.declared.marks.SpotWay.{SpotWay}
use Rattle.plan_kit.specs.declared.marks.WordsWay.{WordsWay}
use Rattle.plan_kit.specs.declared.scales.ScalePlan.{ScalePlan}
use Rattle.vega_assemble.specs.Names.{middle_name, foot_name, scale_name}

-- ---- values

-- a value without members
abbrev pub bare : ChannelValue
bare = record { value = None; field = None; scale = None; band = None; offset = None; signal = None; test = None; format = None }

abbrev pub cell_value : Cell → ChannelValue
cell_value c = record bare { value = Some c }

abbrev pub number_value : ℤ → ChannelValue
number_value n = cell_value (cell.Number n)

abbrev pub text_value : List ℕ → ChannelValue
text_value text = cell_value (cell.Text text)

abbrev pub signal_value : Expr → ChannelValue
signal_value e = record bare { signal = Some e }

-- a written cell: null as one that is computed
abbrev pub written_value : Cell → ChannelValue
written_value cell.Null = signal_value expr.Null
written_value (cell.Flag b) = cell_value (cell.Flag b)
written_value (cell.Number n) = cell_value (cell.Number n)
written_value (cell.Text t) = cell_value (cell.Text t)
written_value (cell.Pair a b) = cell_value (cell.Pair a b)

-- a cell of a row
abbrev pub shown_value : CellOf → ChannelValue
shown_value (shows.Field name) = record bare { field = Some name }
shown_value (shows.Written c) = written_value c
shown_value (shows.Computed e) = signal_value e

abbrev pub on_scale : List ℕ → ChannelValue → ChannelValue
on_scale name value = record value { scale = Some name }

abbrev pub with_band : ℤ → ChannelValue → ChannelValue
with_band share value = record value { band = Some share }

-- a value under a test, moved, and with a format
abbrev pub under : ChannelValue → Option Expr → Option ℤ → Option (List ℕ) → ChannelValue
under value test offset format = record value { test = test; offset = offset; format = format }

-- ---- places

-- one half of a band, and one whole
abbrev pub half_band : ℤ
half_band = pos 500000

abbrev pub whole_band : ℤ
whole_band = pos million

-- where a spot is along a channel, x or y
abbrev pub spot_value : List ℕ → List ScalePlan → ℕ → Spot → ChannelValue
spot_value stem scales channel (spot.Pixels c) = cell_value c
spot_value stem scales channel (spot.Place s c) = on_scale (scale_name stem scales s) (shown_value c)
spot_value stem scales channel (spot.Centre s c) = with_band half_band (on_scale (scale_name stem scales s) (shown_value c))
spot_value stem scales channel (spot.EndOfBand s c) = with_band whole_band (on_scale (scale_name stem scales s) (shown_value c))
spot_value stem scales channel (spot.Base s) = on_scale (scale_name stem scales s) (cell_value cell.Null)
spot_value stem scales channel spot.Middle = on_scale (middle_name stem channel) (number_value (pos 0))
spot_value stem scales channel spot.Foot = on_scale (foot_name stem channel) (number_value (pos 0))
spot_value stem scales channel spot.Nowhere = cell_value cell.Null

abbrev pub spot_way : List ℕ → List ScalePlan → ℕ → SpotWay → ChannelValue
spot_way stem scales channel way = under (spot_value stem scales channel way.gives) way.test way.offset None

-- ---- looks and words

abbrev pub look_value : List ℕ → List ScalePlan → Look → ChannelValue
look_value stem scales (look.Written c) = cell_value c
look_value stem scales (look.OnScale s c) = on_scale (scale_name stem scales s) (shown_value c)

abbrev pub look_way : List ℕ → List ScalePlan → LookWay → ChannelValue
look_way stem scales way = under (look_value stem scales way.gives) way.test None None

abbrev pub words_way : WordsWay → ChannelValue
words_way way = under (shown_value way.gives.cell) way.test None way.gives.format

-- ---- channels

abbrev pub alone : ChannelValue → Option Channel
alone value = Some (One value)

abbrev pub channel_by : List ChannelValue → Option Channel
channel_by [] = None
channel_by (value ∷ []) = alone value
channel_by (first ∷ second ∷ others) = Some (Several (first ∷ second ∷ others))

abbrev pub end_channel : List ℕ → List ScalePlan → ℕ → List SpotWay → Option Channel
end_channel stem scales channel ways = channel_by (map (spot_way stem scales channel) ways)

abbrev pub look_channel : List ℕ → List ScalePlan → List LookWay → Option Channel
look_channel stem scales ways = channel_by (map (look_way stem scales) ways)

abbrev pub words_channel : List WordsWay → Option Channel
words_channel ways = channel_by (map words_way ways)

-- The rules at work.

nothing_is_left_out : channel_by [] ≡ None
nothing_is_left_out = refl

a_base_is_a_written_null : spot_value [] [] 0 (spot.Base 2) ≡ on_scale (scale_name [] [] 2) (cell_value cell.Null)
a_base_is_a_written_null = refl

a_null_cell_is_computed : spot_value [] [] 0 (spot.Place 2 (shows.Written cell.Null)) ≡ on_scale (scale_name [] [] 2) (signal_value expr.Null)
a_null_cell_is_computed = refl
