-- What stands at a point of a picture. Places and sizes are millionths of a pixel.
use Rattle.std.specs.Prelude.{ℕ, ℤ, pos, ◌+ℤ◌, ◌-ℤ◌, ◌*ℤ◌, int_le, Bool, false, ◌&&◌, Option, Some, None, is_some, unwrap_or}
use Rattle.std.specs.Prelude.{List, [], ◌∷◌, map, filter, fold}
use Rattle.std.specs.List.{filter_map, flat_map, enumerate_from}
use Rattle.std.specs.Int.{int_min, int_max}
use Rattle.std.specs.Option.{option_map_or}
use Rattle.fixed_num.specs.Ranges.{is_within}
use Rattle.scene_tree.specs.declared.scene.Scene.{Scene}
use Rattle.scene_tree.specs.declared.scene.Panel.{Panel}
use Rattle.scene_tree.specs.declared.scene.Item.{Item}
use Rattle.scene_tree.specs.declared.shape.Shape.{Shape}
use Rattle.scene_tree.specs.declared.shape.Shape.TheVariants.{Rect, Circle, Path, Line, Words}
use Rattle.scene_tree.specs.declared.shape.Point.{Point}
use Rattle.scene_tree.specs.declared.shape.Point.TheVariants as point
use Rattle.scene_tree.specs.declared.hits.ItemRef.{ItemRef}

abbrev pub square : ℤ → ℤ
square m = m *ℤ m

-- how far to the right a step of a path leads; to close a path leads nowhere
abbrev pub across : Point → Option ℤ
across (point.Move x y) = Some x
across (point.Line x y) = Some x
across point.Close = None

-- how far down a step of a path leads
abbrev pub down : Point → Option ℤ
down (point.Move x y) = Some y
down (point.Line x y) = Some y
down point.Close = None

-- the least and the greatest of these numbers, where there are some
abbrev pub extent : List ℤ → Option (ℤ × ℤ)
extent [] = None
extent (m ∷ ms) = Some (fold int_min m ms, fold int_max m ms)

-- a place is at most r from the middle between two ends: twice the place at most 2r from their sum, as that may be odd
abbrev pub is_near_middle : ℤ → ℤ → ℤ × ℤ → Bool
is_near_middle r at ends = is_within (ends.0 +ℤ ends.1 -ℤ pos 2 *ℤ r) (ends.0 +ℤ ends.1 +ℤ pos 2 *ℤ r) (pos 2 *ℤ at)

-- a place is at most r from the middle between the least and the greatest of these
abbrev pub is_near : ℤ → ℤ → List ℤ → Bool
is_near r at places = option_map_or (is_near_middle r at) (extent places) false

-- the point x, y belongs to the shape: to a rect with its edges, to a circle with its rim, to a symbol's path by a
-- square of half side r round its middle; to nothing else. A rect of negative width or height has no point.
abbrev pub holds_point : Shape → ℤ → ℤ → Bool
holds_point (Rect left top width height) x y = is_within left (left +ℤ width) x && is_within top (top +ℤ height) y
holds_point (Circle cx cy r) x y = int_le (square (x -ℤ cx) +ℤ square (y -ℤ cy)) (square r)
holds_point (Path points (Some r)) x y = is_near r x (filter_map across points) && is_near r y (filter_map down points)
holds_point (Path points None) x y = false
holds_point (Line x1 y1 x2 y2) x y = false
holds_point (Words wx wy turned anchor size bold text) x y = false

-- the places of the elements that pass a test, in order
abbrev pub places_where : {X : Type 0} → (X → Bool) → List X → List ℕ
places_where passes xs = map (λ p. p.0) (filter (λ p. passes p.1) (enumerate_from 0 xs))

-- the items of a panel that are wanted and hold a point of the picture, by their places, in drawing order
abbrev pub hits_among : (Item → Bool) → Panel → ℤ → ℤ → List ℕ
hits_among wanted panel x y =
    places_where (λ item. wanted item && holds_point item.shape (x -ℤ panel.x) (y -ℤ panel.y)) panel.items

abbrev pub has_key : Item → Bool
has_key item = is_some item.key

-- the items of a panel, which stands at its place in the scene, that have a key and hold a point, in drawing order
abbrev pub hits_in : ℤ → ℤ → ℕ × Panel → List ItemRef
hits_in x y placed = map (λ place. record { panel = placed.0; item = place }) (hits_among has_key placed.1 x y)

-- the items of a scene that have a key and hold a point, in drawing order
abbrev pub hits_of : Scene → ℤ → ℤ → List ItemRef
hits_of scene x y = flat_map (hits_in x y) (enumerate_from 0 scene.panels)

-- the last element, where there is one
abbrev pub last : {X : Type 0} → List X → Option X
last [] = None
last (x ∷ xs) = Some (unwrap_or (last xs) x)

-- the last item in drawing order that has a key and holds the point
abbrev pub hit_of : Scene → ℤ → ℤ → Option ItemRef
hit_of scene x y = last (hits_of scene x y)
