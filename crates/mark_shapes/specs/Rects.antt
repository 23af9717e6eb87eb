-- Rects.
use Rattle.std.specs.Prelude.{Option, Some}
use Rattle.fixed_num.specs.Ranges.{◌>>=◌}
use Rattle.scene_tree.specs.declared.shape.Shape.{Shape}
use Rattle.scene_tree.specs.declared.shape.Shape.TheVariants.{Rect}
use Rattle.mark_shapes.specs.declared.spans.Span.{Span}

-- a rect over a span along x and one along y
abbrev pub rect_over : Option Span → Option Span → Option Shape
rect_over across down = do
  x ← across
  y ← down
  Some (Rect x.from y.from x.size y.size)
