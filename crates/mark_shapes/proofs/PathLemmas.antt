-- Points, if there are any.
use Rattle.std.proofs.Common.{◌≡◌, List, [], ◌∷◌, Some, None, refl, sym, ap}
use Rattle.scene_tree.specs.declared.shape.Point.{Point}
use Rattle.mark_shapes.specs.Paths.{some_points}

-- no points are none
pub no_points : (points : List Point) → points ≡ [] → None ≡ some_points points
no_points points none = ap some_points (sym none)

-- others are themselves
pub all_points : (points : List Point) → (points ≡ [] → ⊥) → Some points ≡ some_points points
all_points [] some = absurd (some refl)
all_points (first ∷ others) some = refl
