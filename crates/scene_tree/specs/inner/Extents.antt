-- Extents along an axis.
use Rattle.std.specs.Prelude.{ℤ, Option, Some, None}
use Rattle.std.specs.Int.{int_min, int_max}
use Rattle.scene_tree.specs.declared.shape.Point.{Point}
use Rattle.scene_tree.specs.declared.holding.Axis.{Axis}
use Rattle.scene_tree.specs.declared.holding.Axis.TheVariants.{Across, Down}
use Rattle.scene_tree.specs.Hits.{across, down}

-- how far a step of a path leads along an axis
abbrev pub coordinate : Axis → Point → Option ℤ
coordinate Across = across
coordinate Down = down

-- an extent that takes in a number, if there is one
abbrev pub widened : Option (ℤ × ℤ) → Option ℤ → Option (ℤ × ℤ)
widened ends None = ends
widened None (Some m) = Some (m, m)
widened (Some ends) (Some m) = Some (int_min ends.0 m, int_max ends.1 m)
