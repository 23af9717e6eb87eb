-- The paths of lines and areas.
use Rattle.std.specs.Prelude.{◌≡◌, refl, ℕ, ℤ, pos, ◌*◌, Option, Some, None, List, [], ◌∷◌, codes}
use Rattle.fixed_num.specs.Number.{million}
use Rattle.fixed_num.specs.Ranges.{◌>>=◌}
use Rattle.scene_tree.specs.declared.scene.Item.{Item}
use Rattle.scene_tree.specs.declared.shape.Point.{Point}
use Rattle.scene_tree.specs.declared.shape.Shape.TheVariants.{Path}
use Rattle.mark_shapes.specs.declared.looks.Look.{Look}
use Rattle.mark_shapes.specs.declared.runs.Pass.{Pass}
use Rattle.mark_shapes.specs.declared.runs.PathStop.{PathStop}
use Rattle.mark_shapes.specs.declared.shown.Shown.{Shown}
use Rattle.mark_shapes.specs.declared.shown.Shown.TheVariants.{Absent, Lacking, Given}
use Rattle.mark_shapes.specs.Shown.{or_default}
use Rattle.mark_shapes.specs.Places.{place_of}
use Rattle.mark_shapes.specs.Looks.{look_of}

-- where a path passes along one direction, by its near end, its middle and its far end: it comes back at the far end, if there is one, or
-- else as it went; None where a place lacks
abbrev pub pass_of : Shown ℤ → Shown ℤ → Shown ℤ → Option Pass
pass_of near middle far = do
  there ← place_of near middle
  back ← or_default there far
  Some (record { there = there; back = back })

-- where a path passes by its passes along x and y, if it has both
abbrev pub stop_at : Option Pass → Option Pass → Option PathStop
stop_at across down = do
  x ← across
  y ← down
  Some (record { across = x; down = y })

-- what lacks counts as absent
abbrev pub given_or_absent : {X : Type 0} → Shown X → Shown X
given_or_absent Absent = Absent
given_or_absent Lacking = Absent
given_or_absent (Given x) = Given x

-- how a path is painted, by what its first row shows; None where a colour lacks. A width and an opacity that lack take their defaults
abbrev pub path_look : ℕ → Shown (List ℕ) → Shown (List ℕ) → Shown ℤ → Shown ℤ → Option Look
path_look default fill stroke stroke_width opacity =
    look_of default fill stroke (given_or_absent stroke_width) (given_or_absent opacity)

-- points, if there are any
abbrev pub some_points : List Point → Option (List Point)
some_points [] = None
some_points (first ∷ others) = Some (first ∷ others)

-- a path over points that is painted, as the item of a mark; none without a point
abbrev pub path_item : ℕ → List Point → Option Look → Option Item
path_item unit points painted = do
  steps ← some_points points
  look ← painted
  Some (record {
    shape = Path steps None;
    fill = look.fill;
    stroke = look.stroke;
    stroke_width = look.stroke_width;
    opacity = look.opacity;
    unit = Some unit;
    key = None;
  })

-- The rules at work, in millionths.

-- the way back at the far end, or as the way there; where it lacks, the path has a gap
ways_back : (pass_of (Given (pos 7)) Absent (Given (pos 90)) ≡ Some (record { there = pos 7; back = pos 90 }))
    × (pass_of (Given (pos 7)) Absent Absent ≡ Some (record { there = pos 7; back = pos 7 }))
    × (pass_of (Given (pos 7)) Absent Lacking ≡ None)
ways_back = (refl, refl, refl)

-- a width and an opacity that are no numbers take the defaults, and a stroke that is no text leaves no look
the_looks : (path_look 2 Absent (Given (codes "#4c78a8")) Lacking Lacking
    ≡ Some (record { fill = None; stroke = Some (codes "#4c78a8"); stroke_width = pos (2 * million); opacity = pos million }))
    × (path_look 2 Absent Lacking Absent Absent ≡ None)
the_looks = (refl, refl)
