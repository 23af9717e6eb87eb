-- The shapes of rows in the program.
use Rattle.std.specs.Prelude.{Option, Some, None}
use Rattle.cell_value.specs.Datum.{CellAt}
use Rattle.expr_eval.specs.Values.{Values}
use Rattle.scene_tree.specs.declared.shape.Shape.{Shape}
use Rattle.mark_encode.specs.declared.shapes.ShapeChannels.{ShapeChannels}
use Rattle.mark_encode.specs.declared.shapes.ShapeChannels.TheVariants as kind
use Rattle.mark_encode.specs.Rects.{rect_for}
use Rattle.mark_encode.specs.Rules.{rule_for}
use Rattle.mark_encode.specs.Symbols.{symbol_for}
use Rattle.mark_encode.specs.Texts.{text_for}
use Rattle.mark_encode.specs.inner.Kinds.{along_values, rule_values, symbol_values, text_values}

-- the shape of a row, by the values in the channels of its mark
abbrev pub shape_by : ShapeChannels → CellAt → Values → Option (Option Shape)
shape_by (kind.Rect rect) = rect_for (along_values rect.across) (along_values rect.down)
shape_by (kind.Symbol symbol) = symbol_for (symbol_values symbol)
shape_by (kind.Rule rule) = rule_for (rule_values rule)
shape_by (kind.Text text) = text_for (text_values text)
shape_by kind.Nothing = λ cells values. Some None
