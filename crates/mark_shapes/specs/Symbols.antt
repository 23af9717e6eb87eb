-- Symbols. An outer None stands for a number out of range, an inner one for what is lacking.
use Rattle.std.specs.Prelude.{◌≡◌, refl, ℕ, ℤ, pos, negsuc, ◌+ℤ◌, ◌-ℤ◌, ◌*ℤ◌, ◌*◌, int_lt, Option, Some, None, List, [], ◌∷◌, codes, if◌then◌else◌}
use Rattle.std.specs.Option.{option_map}
use Rattle.std.specs.Str.{bytes_eq}
use Rattle.fixed_num.specs.Number.{million, limit, rounded, floor_quotient, root_of}
use Rattle.fixed_num.specs.Ranges.{◌>>=◌, in_range}
use Rattle.scene_tree.specs.declared.shape.Shape.{Shape}
use Rattle.scene_tree.specs.declared.shape.Shape.TheVariants.{Rect, Circle, Path}
use Rattle.scene_tree.specs.declared.shape.Point.{Point}
use Rattle.scene_tree.specs.declared.shape.Point.TheVariants as point
use Rattle.mark_shapes.specs.declared.shown.Shown.{Shown}
use Rattle.mark_shapes.specs.declared.shown.Shown.TheVariants.{Absent, Lacking, Given}
use Rattle.mark_shapes.specs.declared.symbols.Reach.{Reach}
use Rattle.mark_shapes.specs.declared.symbols.Symbol.{Symbol}
use Rattle.mark_shapes.specs.declared.symbols.Symbol.TheVariants as symbol
use Rattle.mark_shapes.specs.Shown.{or_default}

-- a symbol by its name; every other text is a circle
abbrev pub symbol_named : List ℕ → Symbol
symbol_named word =
    if bytes_eq word (codes "square") then symbol.Square
    else (if bytes_eq word (codes "triangle-up") then symbol.TriangleUp
    else (if bytes_eq word (codes "diamond") then symbol.Diamond else symbol.Circle))

-- the symbol that is shown; without a text a circle
abbrev pub symbol_of : Shown (List ℕ) → Symbol
symbol_of Absent = symbol.Circle
symbol_of Lacking = symbol.Circle
symbol_of (Given word) = symbol_named word

-- the size of a symbol that shows none, in square pixels
abbrev pub default_size : ℕ
default_size = 30

-- the root of a size, which is the side of a square; none of a negative size
abbrev pub side_of : ℤ → Option ℤ
side_of size = if int_lt size (pos 0) then None else Some (root_of size)

-- the root of the size that is shown, if there is one
abbrev pub side_shown : Shown ℤ → Option ℤ
side_shown size = or_default (pos (default_size * million)) size >>= side_of

-- half of the root of a size
abbrev pub radius_of : ℤ → ℤ
radius_of side = rounded side 2

-- half the height of a triangle
abbrev pub rise_of : ℤ → ℤ
rise_of r = rounded (r *ℤ pos 866025) million

-- a place along one direction with those so far before and behind it
abbrev pub reach_at : ℤ → ℤ → Option Reach
reach_at far at = do
  before ← in_range (at -ℤ far)
  behind ← in_range (at +ℤ far)
  Some (record { before = before; at = at; behind = behind })

abbrev pub reach_of : ℤ → Option ℤ → Option (Option Reach)
reach_of far None = Some None
reach_of far (Some at) = option_map Some (reach_at far at)

-- the place so far before a place
abbrev pub place_before : ℤ → Option ℤ → Option (Option ℤ)
place_before far None = Some None
place_before far (Some at) = option_map Some (in_range (at -ℤ far))

-- a circle about (x, y)
abbrev pub circle_at : ℤ → Option ℤ → Option ℤ → Option Shape
circle_at r across down = do
  x ← across
  y ← down
  Some (Circle x y r)

-- a square with its upper left corner at (x, y)
abbrev pub square_at : ℤ → Option ℤ → Option ℤ → Option Shape
square_at side across down = do
  x ← across
  y ← down
  Some (Rect x y side side)

-- a path over these points, that is picked by half the side of its square
abbrev pub symbol_path : List Point → ℤ → Option Shape
symbol_path points r = Some (Path points (Some r))

-- a diamond, from its left corner over the upper one
abbrev pub diamond_over : ℤ → Option Reach → Option Reach → Option Shape
diamond_over r across down = do
  x ← across
  y ← down
  symbol_path (point.Move x.before y.at ∷ point.Line x.at y.before ∷ point.Line x.behind y.at ∷ point.Line x.at y.behind ∷ point.Close ∷ []) r

-- a triangle, from its upper corner over the left one
abbrev pub triangle_over : ℤ → Option Reach → Option Reach → Option Shape
triangle_over r across down = do
  x ← across
  y ← down
  symbol_path (point.Move x.at y.before ∷ point.Line x.before y.behind ∷ point.Line x.behind y.behind ∷ point.Close ∷ []) r

-- A square is drawn from the corner a radius to the left and above its place.
abbrev pub square_about : ℤ → ℤ → Option ℤ → Option ℤ → Option (Option Shape)
square_about side r x y = do
  left ← place_before r x
  above ← place_before r y
  Some (square_at side left above)

-- The corners of a diamond are a radius from its place.
abbrev pub diamond_about : ℤ → Option ℤ → Option ℤ → Option (Option Shape)
diamond_about r x y = do
  across ← reach_of r x
  down ← reach_of r y
  Some (diamond_over r across down)

-- A triangle reaches a radius to both sides, and so far above and below as it rises.
abbrev pub triangle_about : ℤ → Option ℤ → Option ℤ → Option (Option Shape)
triangle_about r x y = do
  rise ← in_range (rise_of r)
  across ← reach_of r x
  down ← reach_of rise y
  Some (triangle_over r across down)

-- a symbol about a place, by its radius and the root of its size
abbrev pub symbol_about : Symbol → ℤ → ℤ → Option ℤ → Option ℤ → Option (Option Shape)
symbol_about symbol.Circle side r x y = Some (circle_at r x y)
symbol_about symbol.Square side r x y = square_about side r x y
symbol_about symbol.TriangleUp side r x y = triangle_about r x y
symbol_about symbol.Diamond side r x y = diamond_about r x y

-- a symbol about a place by the root of its size, if there is one
abbrev pub symbol_with : Symbol → Option ℤ → Option ℤ → Option ℤ → Option (Option Shape)
symbol_with form None x y = Some None
symbol_with form (Some side) x y = in_range (radius_of side) >>= λ r. symbol_about form side r x y

-- The rules at work, in millionths.

symbols_by_their_names : (symbol_of (Given (codes "diamond")) ≡ symbol.Diamond) × (symbol_of (Given (codes "cross")) ≡ symbol.Circle)
    × (symbol_of Lacking ≡ symbol.Circle) × (symbol_of Absent ≡ symbol.Circle)
symbols_by_their_names = (refl, refl, refl, refl)

-- a circle of size 30 at (100, 10)
a_circle : symbol_with symbol.Circle (side_shown Absent) (Some (pos (100 * million))) (Some (pos (10 * million)))
    ≡ Some (Some (Circle (pos (100 * million)) (pos (10 * million)) (pos 2738613)))
unfolding rounded floor_quotient root_of
a_circle = refl

-- of size 16 each side of the square is 4 long, and the corners of a diamond are 2 from its place
a_square : symbol_with symbol.Square (side_shown (Given (pos (16 * million)))) (Some (pos (10 * million))) (Some (pos 0))
    ≡ Some (Some (Rect (pos (8 * million)) (negsuc 1999999) (pos (4 * million)) (pos (4 * million))))
unfolding rounded floor_quotient root_of
a_square = refl

a_diamond : symbol_with symbol.Diamond (side_shown (Given (pos (16 * million)))) (Some (pos (10 * million))) (Some (pos (20 * million)))
    ≡ Some (Some (Path (point.Move (pos (8 * million)) (pos (20 * million)) ∷ point.Line (pos (10 * million)) (pos (18 * million))
    ∷ point.Line (pos (12 * million)) (pos (20 * million)) ∷ point.Line (pos (10 * million)) (pos (22 * million)) ∷ point.Close ∷ [])
    (Some (pos (2 * million)))))
unfolding rounded floor_quotient root_of
a_diamond = refl

a_triangle : symbol_with symbol.TriangleUp (side_shown (Given (pos (16 * million)))) (Some (pos (10 * million))) (Some (pos (20 * million)))
    ≡ Some (Some (Path (point.Move (pos (10 * million)) (pos 18267950) ∷ point.Line (pos (8 * million)) (pos 21732050)
    ∷ point.Line (pos (12 * million)) (pos 21732050) ∷ point.Close ∷ []) (Some (pos (2 * million)))))
unfolding rounded floor_quotient root_of
a_triangle = refl

-- no symbol of a negative size, without a size or without a place
no_symbols : (symbol_with symbol.Circle (side_shown (Given (negsuc 0))) (Some (pos 0)) (Some (pos 0)) ≡ Some None)
    × (symbol_with symbol.Circle (side_shown Lacking) (Some (pos 0)) (Some (pos 0)) ≡ Some None)
    × (symbol_with symbol.Square (side_shown (Given (pos 0))) None (Some (pos 0)) ≡ Some None)
unfolding rounded floor_quotient root_of
no_symbols = (refl, refl, refl)

-- a corner out of range, also where the other place lacks; the centre alone is in range
too_far : (symbol_with symbol.Square (side_shown (Given (pos (16 * million)))) (Some (negsuc 999999999999999999999)) None ≡ None)
    × (symbol_with symbol.Diamond (side_shown (Given (pos (16 * million)))) None (Some (pos limit)) ≡ None)
    × (symbol_with symbol.Circle (side_shown (Given (pos (16 * million)))) (Some (pos limit)) (Some (pos 0))
    ≡ Some (Some (Circle (pos limit) (pos 0) (pos (2 * million)))))
unfolding rounded floor_quotient root_of
too_far = (refl, refl, refl)
