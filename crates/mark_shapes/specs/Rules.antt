-- Rules.
use Rattle.std.specs.Prelude.{◌≡◌, refl, ℤ, pos, Option, Some, None}
use Rattle.std.specs.Option.{option_map}
use Rattle.fixed_num.specs.Ranges.{◌>>=◌}
use Rattle.scene_tree.specs.declared.shape.Shape.{Shape}
use Rattle.scene_tree.specs.declared.shape.Shape.TheVariants.{Line}
use Rattle.mark_shapes.specs.declared.rules.Ends.{Ends}
use Rattle.mark_shapes.specs.declared.shown.Shown.{Shown}
use Rattle.mark_shapes.specs.declared.shown.Shown.TheVariants.{Absent, Lacking, Given}
use Rattle.mark_shapes.specs.Shown.{or_default}

-- from the near end to the far end, to the near end again where no far end is encoded
abbrev pub ends_from : ℤ → Shown ℤ → Option Ends
ends_from near far = option_map (λ to. record { from = near; to = to }) (or_default near far)

-- from 0 to the far end, over the whole plot where no far end is encoded
abbrev pub ends_to : ℤ → Shown ℤ → Option Ends
ends_to whole far = option_map (λ to. record { from = pos 0; to = to }) (or_default whole far)

-- Where a rule begins and ends along one direction, in a plot that is so long.
abbrev pub ends_of : ℤ → Shown ℤ → Shown ℤ → Option Ends
ends_of whole (Given near) far = ends_from near far
ends_of whole Lacking far = None
ends_of whole Absent far = ends_to whole far

-- a line between its ends along x and along y
abbrev pub line_between : Option Ends → Option Ends → Option Shape
line_between across down = do
  x ← across
  y ← down
  Some (Line x.from y.from x.to y.to)

-- The rules at work, in a plot 200 long.

between_two_ends : ends_of (pos 200) (Given (pos 60)) (Given (pos 20)) ≡ Some (record { from = pos 60; to = pos 20 })
between_two_ends = refl

-- with one end it stays there, or begins at 0; without ends it runs over the whole plot
with_one_end_or_none : (ends_of (pos 200) (Given (pos 60)) Absent ≡ Some (record { from = pos 60; to = pos 60 }))
    × (ends_of (pos 200) Absent (Given (pos 20)) ≡ Some (record { from = pos 0; to = pos 20 }))
    × (ends_of (pos 200) Absent Absent ≡ Some (record { from = pos 0; to = pos 200 }))
with_one_end_or_none = (refl, refl, refl)

ends_that_lack : (ends_of (pos 200) Lacking (Given (pos 20)) ≡ None) × (ends_of (pos 200) (Given (pos 60)) Lacking ≡ None)
    × (ends_of (pos 200) Absent Lacking ≡ None) × (ends_of (pos 200) Lacking Absent ≡ None)
ends_that_lack = (refl, refl, refl, refl)

-- an upright rule at 60 over a plot 80 high
an_upright_rule : line_between (ends_of (pos 200) (Given (pos 60)) Absent) (ends_of (pos 80) Absent Absent)
    ≡ Some (Line (pos 60) (pos 0) (pos 60) (pos 80))
an_upright_rule = refl
