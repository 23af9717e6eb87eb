-- How items are painted. An outer None stands for a number out of range, an inner one for a colour or a number that is lacking.
use Rattle.std.specs.Prelude.{◌≡◌, refl, ℕ, false, pos, Option, Some, None, List, codes}
use Rattle.std.specs.Option.{option_map}
use Rattle.fixed_num.specs.Number.{million}
use Rattle.fixed_num.specs.Ranges.{◌>>=◌}
use Rattle.cell_value.specs.Datum.{CellAt}
use Rattle.expr_eval.specs.Values.{Values}
use Rattle.vega_spec.specs.declared.marks.MarkType.{MarkType}
use Rattle.vega_spec.specs.declared.marks.MarkType.TheVariants as mark
use Rattle.mark_shapes.specs.declared.looks.Look.{Look}
use Rattle.mark_shapes.specs.declared.shown.Shown.TheVariants.{Absent, Lacking, Given}
use Rattle.mark_shapes.specs.Looks.{look_of, without_stroke}
use Rattle.mark_encode.specs.declared.channels.ChannelName.{ChannelName}
use Rattle.mark_encode.specs.declared.channels.ChannelName.TheVariants as name
use Rattle.mark_encode.specs.Channels.{ScaledValue}
use Rattle.mark_encode.specs.Values.{number_shown, color_shown}

-- the width of a mark's line where none is encoded, in pixels
abbrev pub default_stroke_width : MarkType → ℕ
default_stroke_width mark.Rect = 1
default_stroke_width mark.Symbol = 2
default_stroke_width mark.Line = 2
default_stroke_width mark.Area = 1
default_stroke_width mark.Rule = 1
default_stroke_width mark.Text = 1
default_stroke_width mark.Group = 1

-- the values in the channels that say how an item is painted
pub record LookValues : Type 0 where
  pub fill : List ScaledValue
  pub stroke : List ScaledValue
  pub stroke_width : List ScaledValue
  pub opacity : List ScaledValue

-- how the item of a row is painted
abbrev pub look_for : ℕ → CellAt → Values → LookValues → Option (Option Look)
look_for default cells values looks = do
  f ← color_shown cells values looks.fill
  s ← color_shown cells values looks.stroke
  w ← number_shown false cells values looks.stroke_width
  o ← number_shown false cells values looks.opacity
  Some (look_of default f s w o)

-- the channels of a mark by their names, put together
abbrev pub looks_of : (ChannelName → List ScaledValue) → LookValues
looks_of channels = record {
  fill = channels name.Fill;
  stroke = channels name.Stroke;
  stroke_width = channels name.StrokeWidth;
  opacity = channels name.Opacity;
}

-- how the items of a mark of a type are painted by their looks
abbrev pub painted_on : MarkType → Option Look → Option Look
painted_on mark.Rect look = look
painted_on mark.Symbol look = look
painted_on mark.Line look = look
painted_on mark.Area look = look
painted_on mark.Rule look = look
painted_on mark.Text look = option_map without_stroke look
painted_on mark.Group look = look

-- The rules at work.

-- a line that is encoded is drawn round a rect, and not round a text; one that lacks its colour leaves none of both
outlines : (painted_on mark.Rect (look_of 1 Absent (Given (codes "#000")) (Given (pos 2000000)) Absent)
    ≡ Some (record { fill = None; stroke = Some (codes "#000"); stroke_width = pos 2000000; opacity = pos million }))
    × (painted_on mark.Text (look_of 1 Absent (Given (codes "#000")) (Given (pos 2000000)) Absent)
    ≡ Some (record { fill = None; stroke = None; stroke_width = pos million; opacity = pos million }))
    × (painted_on mark.Text (look_of 1 Absent Lacking Absent Absent) ≡ None)
outlines = (refl, refl, refl)
