-- Items that are moved. Places and how far they are moved are millionths of a pixel.
use Rattle.std.specs.Prelude.{◌≡◌, refl, ◌+◌, if◌then◌else◌, ℤ, pos, negsuc, ◌+ℤ◌, Option, Some, None, [], ◌∷◌, map}
use Rattle.std.specs.Option.{option_map}
use Rattle.std.specs.Ordering.{int_eq}
use Rattle.fixed_num.specs.Number.{limit}
use Rattle.fixed_num.specs.Ranges.{◌>>=◌, all_found, in_range}
use Rattle.scene_tree.specs.declared.scene.Item.{Item}
use Rattle.scene_tree.specs.declared.shape.Point.{Point}
use Rattle.scene_tree.specs.declared.shape.Point.TheVariants as point
use Rattle.scene_tree.specs.declared.shape.Shape.{Shape}
use Rattle.scene_tree.specs.declared.shape.Shape.TheVariants.{Rect, Circle, Path, Line, Words}

-- a place along one direction, moved: by nothing it stays; None where it is then out of range
abbrev pub moved_to : ℤ → ℤ → Option ℤ
moved_to by at = if int_eq by (pos 0) then Some at else in_range (at +ℤ by)

-- a place, moved
abbrev pub moved_place : ℤ → ℤ → ℤ → ℤ → Option (ℤ × ℤ)
moved_place dx dy x y = do
  across ← moved_to dx x
  down ← moved_to dy y
  Some (across, down)

-- a point of a path, moved
abbrev pub moved_point : ℤ → ℤ → Point → Option Point
moved_point dx dy (point.Move x y) = do
  place ← moved_place dx dy x y
  Some (point.Move place.0 place.1)
moved_point dx dy (point.Line x y) = do
  place ← moved_place dx dy x y
  Some (point.Line place.0 place.1)
moved_point dx dy point.Close = Some point.Close

-- a shape, moved
abbrev pub moved_shape : ℤ → ℤ → Shape → Option Shape
moved_shape dx dy (Rect x y width height) = do
  corner ← moved_place dx dy x y
  Some (Rect corner.0 corner.1 width height)
moved_shape dx dy (Circle x y r) = do
  centre ← moved_place dx dy x y
  Some (Circle centre.0 centre.1 r)
moved_shape dx dy (Path points picked) = do
  moved ← all_found (map (moved_point dx dy) points)
  Some (Path moved picked)
moved_shape dx dy (Line x1 y1 x2 y2) = do
  from ← moved_place dx dy x1 y1
  to ← moved_place dx dy x2 y2
  Some (Line from.0 from.1 to.0 to.1)
moved_shape dx dy (Words x y turned anchor size bold text) = do
  anchored ← moved_place dx dy x y
  Some (Words anchored.0 anchored.1 turned anchor size bold text)

-- an item, moved
abbrev pub moved_item : ℤ → ℤ → Item → Option Item
moved_item dx dy item = option_map (λ shape. record item { shape = shape }) (moved_shape dx dy item.shape)

-- an item that is moved by nothing is the same
abbrev pub StaysInPlace : Type 0
StaysInPlace = (item : Item) → moved_item (pos 0) (pos 0) item ≡ Some item

-- The rules at work.

a_rect_moved : moved_shape (pos 10) (negsuc 0) (Rect (pos 1) (pos 2) (pos 3) (pos 4)) ≡ Some (Rect (pos 11) (pos 1) (pos 3) (pos 4))
a_rect_moved = refl

a_line_moved : moved_shape (pos 10) (pos 20) (Line (pos 1) (pos 2) (pos 3) (pos 4)) ≡ Some (Line (pos 11) (pos 22) (pos 13) (pos 24))
a_line_moved = refl

a_path_moved : moved_shape (pos 10) (pos 20) (Path (point.Move (pos 0) (pos 1) ∷ point.Line (pos 2) (pos 3) ∷ point.Close ∷ []) None)
    ≡ Some (Path (point.Move (pos 10) (pos 21) ∷ point.Line (pos 12) (pos 23) ∷ point.Close ∷ []) None)
a_path_moved = refl

not_moved : moved_to (pos 0) (pos (limit + 1)) ≡ Some (pos (limit + 1))
not_moved = refl

moved_too_far : moved_shape (pos 1) (pos 0) (Circle (pos limit) (pos 0) (pos 5)) ≡ None
moved_too_far = refl
