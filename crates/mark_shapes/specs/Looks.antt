-- How items are painted.
use Rattle.std.specs.Prelude.{◌≡◌, refl, ℕ, ℤ, pos, ◌*◌, Option, Some, None, List, codes}
use Rattle.fixed_num.specs.Number.{million}
use Rattle.fixed_num.specs.Ranges.{◌>>=◌}
use Rattle.mark_shapes.specs.declared.looks.Look.{Look}
use Rattle.mark_shapes.specs.declared.shown.Shown.{Shown}
use Rattle.mark_shapes.specs.declared.shown.Shown.TheVariants.{Absent, Lacking, Given}
use Rattle.mark_shapes.specs.Shown.{or_default}

-- a colour that may be absent; None where it is encoded and lacks
abbrev pub color_or_none : Shown (List ℕ) → Option (Option (List ℕ))
color_or_none Absent = Some None
color_or_none Lacking = None
color_or_none (Given color) = Some (Some color)

-- how an item is painted: without encoded colours it has none, and without an encoded opacity it is opaque; None where one lacks
abbrev pub look_of : ℕ → Shown (List ℕ) → Shown (List ℕ) → Shown ℤ → Shown ℤ → Option Look
look_of default fill stroke stroke_width opacity = do
  f ← color_or_none fill
  s ← color_or_none stroke
  w ← or_default (pos (default * million)) stroke_width
  o ← or_default (pos million) opacity
  Some (record { fill = f; stroke = s; stroke_width = w; opacity = o })

-- how a text is painted: it has no line, whatever is encoded
abbrev pub without_stroke : Look → Look
without_stroke look = record { fill = look.fill; stroke = None; stroke_width = pos million; opacity = look.opacity }

-- The rules at work.

abbrev pub bar_look : Look
bar_look = record { fill = Some (codes "#4c78a8"); stroke = None; stroke_width = pos million; opacity = pos million }

-- with a fill alone the rest takes its defaults
the_look_of_a_bar : look_of 1 (Given (codes "#4c78a8")) Absent Absent Absent ≡ Some bar_look
the_look_of_a_bar = refl

-- a colour or a number that is encoded and lacks leaves none
lacking_looks : (look_of 1 Lacking Absent Absent Absent ≡ None) × (look_of 1 Absent Absent Absent Lacking ≡ None)
lacking_looks = (refl, refl)
