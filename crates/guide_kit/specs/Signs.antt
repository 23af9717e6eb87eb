-- The signs of legends.
use Rattle.std.specs.Prelude.{◌≡◌, refl, ℕ, ◌==◌, if◌then◌else◌, List, [], ◌∷◌, codes, ℤ, pos, negsuc, ◌*ℤ◌, int_lt, Option, Some, None}
use Rattle.std.specs.Option.{option_map}
use Rattle.std.specs.Result.{result_ok}
use Rattle.std.specs.Str.{bytes_eq}
use Rattle.fixed_num.specs.Number.{million, rounded, floor_quotient, root_of}
use Rattle.fixed_num.specs.Ranges.{◌>>=◌}
use Rattle.case_table.specs.Names.{index_of, channels}
use Rattle.cell_value.specs.declared.cell.Cell.{Cell}
use Rattle.scene_tree.specs.declared.scene.Item.{Item}
use Rattle.scene_tree.specs.declared.shape.Shape.{Shape}
use Rattle.scene_tree.specs.declared.shape.Shape.TheVariants.{Rect, Circle, Path}
use Rattle.scene_tree.specs.declared.shape.Point.TheVariants as point
use Rattle.scale_kit.specs.declared.scale.Scale.{Scale}
use Rattle.scale_kit.specs.Places.{place_of}
use Rattle.scale_kit.specs.Colors.{paint_of}
use Rattle.guide_kit.specs.declared.signs.SignKind.{SignKind}
use Rattle.guide_kit.specs.declared.signs.SignKind.TheVariants as kind
use Rattle.guide_kit.specs.declared.signs.Symbol.{Symbol}
use Rattle.guide_kit.specs.declared.signs.Symbol.TheVariants as symbol
use Rattle.guide_kit.specs.declared.signs.Sign.{Sign}
use Rattle.guide_kit.specs.declared.signs.Sign.TheVariants as sign
use Rattle.guide_kit.specs.Items.{filled}
use Rattle.guide_kit.specs.Measures.{pixels, plus, minus, half}

-- the kind of the signs of a legend by the code of its channel: color, opacity, size or shape
abbrev pub sign_kind_of : ℕ → Option SignKind
sign_kind_of channel =
    if channel == 4 then Some kind.Color
    else (if channel == 5 then Some kind.Opacity
    else (if channel == 6 then Some kind.Size
    else (if channel == 7 then Some kind.Shape else None)))

-- a symbol by its name, the circle for every other text and without one
abbrev pub symbol_named : List ℕ → Symbol
symbol_named name =
    if bytes_eq name (codes "square") then symbol.Square
    else (if bytes_eq name (codes "triangle-up") then symbol.TriangleUp
    else (if bytes_eq name (codes "diamond") then symbol.Diamond else symbol.Circle))

abbrev pub symbol_of : Option (List ℕ) → Symbol
symbol_of None = symbol.Circle
symbol_of (Some name) = symbol_named name

-- the radius of a symbol of a size, half of the size's root
unfoldable pub radius_of : ℤ → ℤ
radius_of size = half (root_of size)

-- a circle of a size, where that isn't negative
abbrev pub sized : ℤ → Option Sign
sized size = if int_lt size (pos 0) then None else Some (sign.Sized (radius_of size))

-- a circle of a size, if there is one
abbrev pub sized_by : Option ℤ → Option Sign
sized_by size = size >>= sized

-- The sign of a cell, as marks show the cell: its colour, its opacity, a size that isn't negative, or its symbol. An outer None stands for a
-- place out of range, an inner one for a cell without a sign.
abbrev pub sign_of : SignKind → Scale → Cell → Option (Option Sign)
sign_of kind.Color s v = Some (option_map sign.Painted (paint_of s v))
sign_of kind.Opacity s v = option_map (option_map sign.Faded) (result_ok (place_of s v))
sign_of kind.Size s v = option_map sized_by (result_ok (place_of s v))
sign_of kind.Shape s v = Some (Some (sign.Shaped (symbol_of (paint_of s v))))

-- half the height of a triangle, from half the side of its square
unfoldable pub rise_of : ℤ → ℤ
rise_of radius = rounded (radius *ℤ pos 866025) million

-- a circle about a place
abbrev pub circle_at : ℤ → ℤ → ℤ → Shape
circle_at x y r = Circle x y r

-- a square about a place, by half its side and its side
abbrev pub square_with : ℤ → ℤ → ℤ → ℤ → Shape
square_with x y r side = Rect (minus x r) (minus y r) side side

-- a path about a place, with so many pixels from it on each side
abbrev pub diamond_with : ℤ → ℤ → ℤ → Shape
diamond_with x y r =
    Path (point.Move (minus x r) y ∷ point.Line x (minus y r) ∷ point.Line (plus x r) y ∷ point.Line x (plus y r) ∷ point.Close ∷ [])
    (Some r)

abbrev pub triangle_with : ℤ → ℤ → ℤ → ℤ → Shape
triangle_with x y r h =
    Path (point.Move x (minus y h) ∷ point.Line (minus x r) (plus y h) ∷ point.Line (plus x r) (plus y h) ∷ point.Close ∷ []) (Some r)

-- the sizes of symbols whose size shows nothing: the side of a square of size 30, the radius and half the height of a triangle
abbrev pub plain_side : ℤ
plain_side = root_of (pixels 30)

abbrev pub plain_radius : ℤ
plain_radius = radius_of (pixels 30)

abbrev pub plain_rise : ℤ
plain_rise = rise_of plain_radius

-- a symbol of size 30 about a place
abbrev pub symbol_at : ℤ → ℤ → Symbol → Shape
symbol_at x y symbol.Circle = circle_at x y plain_radius
symbol_at x y symbol.Square = square_with x y plain_radius plain_side
symbol_at x y symbol.TriangleUp = triangle_with x y plain_radius plain_rise
symbol_at x y symbol.Diamond = diamond_with x y plain_radius

-- a square of 10 by 10 pixels about a place
abbrev pub swatch_at : ℤ → ℤ → Shape
swatch_at x y = Rect (minus x (pixels 5)) (minus y (pixels 5)) (pixels 10) (pixels 10)

-- the sign about a place: a swatch of its colour, or a symbol in the colour of the legend
abbrev pub sign_at : List ℕ → ℤ → ℤ → Sign → Item
sign_at color x y (sign.Painted own) = filled own (pixels 1) (swatch_at x y)
sign_at color x y (sign.Faded opacity) = filled color opacity (circle_at x y plain_radius)
sign_at color x y (sign.Sized radius) = filled color (pixels 1) (circle_at x y radius)
sign_at color x y (sign.Shaped form) = filled color (pixels 1) (symbol_at x y form)

-- ---- worked examples

channels_with_legends : (index_of channels (codes "color") ≡ Some 4) × (index_of channels (codes "opacity") ≡ Some 5)
    × (index_of channels (codes "size") ≡ Some 6) × (index_of channels (codes "shape") ≡ Some 7)
channels_with_legends = (refl, refl, refl, refl)

names_of_symbols : (symbol_of (Some (codes "diamond")) ≡ symbol.Diamond) × (symbol_of (Some (codes "cross")) ≡ symbol.Circle)
    × (symbol_of None ≡ symbol.Circle)
names_of_symbols = (refl, refl, refl)

symbols_of_size_30 : (plain_side ≡ pos 5477225) × (plain_radius ≡ pos 2738613) × (plain_rise ≡ pos 2371707)
unfolding root_of radius_of half rise_of rounded floor_quotient
symbols_of_size_30 = (refl, refl, refl)

no_sign_of_a_negative_size : sized (negsuc 0) ≡ None
no_sign_of_a_negative_size = refl
