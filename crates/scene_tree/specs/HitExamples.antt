-- What stands at a point, worked out.
use Rattle.std.specs.Prelude.{◌≡◌, refl, ℕ, ◌*◌, ℤ, pos, neg_ℤ, true, false, ◌&&◌, Option, Some, None, List, [], ◌∷◌}
use Rattle.fixed_num.specs.Number.{million, limit}
use Rattle.cell_value.specs.declared.state.Key.{Key}
use Rattle.scene_tree.specs.declared.scene.Scene.{Scene}
use Rattle.scene_tree.specs.declared.scene.Panel.{Panel}
use Rattle.scene_tree.specs.declared.scene.Item.{Item}
use Rattle.scene_tree.specs.declared.shape.Shape.{Shape}
use Rattle.scene_tree.specs.declared.shape.Shape.TheVariants.{Rect, Circle, Path, Line}
use Rattle.scene_tree.specs.declared.shape.Point.TheVariants as point
use Rattle.scene_tree.specs.Hits.{holds_point, hit_of}

abbrev pixels : ℕ → ℤ
pixels n = pos (n * million)

abbrev item : Shape → Option Key → Item
item shape key =
    record { shape = shape; fill = None; stroke = None; stroke_width = pixels 1; opacity = pixels 1; unit = None; key = key }

abbrev some_key : Option Key
some_key = Some (record { id = 1; branch = 0 })

abbrev panel_at : ℕ → ℕ → List Item → Panel
panel_at x y items =
    record { x = pixels x; y = pixels y; width = pixels 20; height = pixels 20; view = None; facet = None; items = items }

abbrev scene_of : List Panel → Scene
scene_of panels = record { width = pixels 100; height = pixels 100; panels = panels }

-- items

abbrev two_circles : List Item
two_circles = item (Circle (pixels 10) (pixels 10) (pixels 5)) some_key ∷ item (Circle (pixels 12) (pixels 10) (pixels 5)) some_key ∷ []

the_last_of_two_circles_counts : hit_of (scene_of (panel_at 0 0 two_circles ∷ [])) (pixels 11) (pixels 10) ≡ Some (record { panel = 0; item = 1 })
the_last_of_two_circles_counts = refl

only_the_first_holds_the_point : hit_of (scene_of (panel_at 0 0 two_circles ∷ [])) (pixels 6) (pixels 10) ≡ Some (record { panel = 0; item = 0 })
only_the_first_holds_the_point = refl

none_holds_the_point : hit_of (scene_of (panel_at 0 0 two_circles ∷ [])) (pixels 11) (pixels 16) ≡ None
none_holds_the_point = refl

an_item_without_a_key_above_one_with_a_key :
    hit_of (scene_of (panel_at 0 0 (item (Rect (pixels 1) (pixels 1) (pixels 9) (pixels 9)) some_key
    ∷ item (Rect (pixels 0) (pixels 0) (pixels 20) (pixels 20)) None ∷ []) ∷ [])) (pixels 2) (pixels 3)
    ≡ Some (record { panel = 0; item = 0 })
an_item_without_a_key_above_one_with_a_key = refl

-- the second panel is moved by 3 and 4
the_last_panel_counts : hit_of (scene_of (panel_at 0 0 two_circles ∷ panel_at 3 4 two_circles ∷ [])) (pixels 11) (pixels 14)
    ≡ Some (record { panel = 1; item = 1 })
the_last_panel_counts = refl

an_earlier_panel_where_the_last_holds_nothing :
    hit_of (scene_of (panel_at 0 0 two_circles ∷ panel_at 50 50 two_circles ∷ [])) (pixels 11) (pixels 10) ≡ Some (record { panel = 0; item = 1 })
an_earlier_panel_where_the_last_holds_nothing = refl

-- rects

abbrev a_rect : Shape
a_rect = Rect (pixels 5) (pixels 6) (pixels 10) (pixels 20)

the_corners_of_a_rect : (holds_point a_rect (pixels 5) (pixels 6) && holds_point a_rect (pixels 15) (pixels 26)) ≡ true
the_corners_of_a_rect = refl

right_of_a_rect : holds_point a_rect (pos 15000001) (pixels 10) ≡ false
right_of_a_rect = refl

above_a_rect : holds_point a_rect (pixels 10) (pos 5999999) ≡ false
above_a_rect = refl

a_rect_of_width_zero : holds_point (Rect (pixels 5) (pixels 6) (pixels 0) (pixels 20)) (pixels 5) (pixels 26) ≡ true
a_rect_of_width_zero = refl

a_rect_of_negative_width : holds_point (Rect (pixels 5) (pixels 6) (neg_ℤ (pixels 2)) (pixels 20)) (pixels 4) (pixels 10) ≡ false
a_rect_of_negative_width = refl

-- circles

abbrev a_circle : Shape
a_circle = Circle (pixels 10) (pixels 10) (pixels 5)

the_rim_of_a_circle : holds_point a_circle (pixels 13) (pixels 14) ≡ true
the_rim_of_a_circle = refl

a_millionth_beyond_the_rim : holds_point a_circle (pixels 13) (pos 14000001) ≡ false
a_millionth_beyond_the_rim = refl

a_corner_of_the_square_round_a_circle : holds_point a_circle (pixels 15) (pixels 15) ≡ false
a_corner_of_the_square_round_a_circle = refl

the_greatest_circle : holds_point (Circle (pos 0) (pos 0) (pos limit)) (pos limit) (pos 0) ≡ true
the_greatest_circle = refl

beyond_the_greatest_circle : holds_point (Circle (pos 0) (pos 0) (pos limit)) (pos limit) (pos 1) ≡ false
beyond_the_greatest_circle = refl

-- symbols

-- its middle is half a millionth below 4 across, and 0 down
abbrev a_triangle : Option ℤ → Shape
a_triangle = Path (point.Move (pixels 2) (pixels 3) ∷ point.Line (pos 5999999) (pixels 3) ∷ point.Line (pixels 3) (neg_ℤ (pixels 3)) ∷ point.Close ∷ [])

the_left_of_a_symbol : holds_point (a_triangle (Some (pixels 1))) (pixels 3) (pixels 1) ≡ true
the_left_of_a_symbol = refl

the_right_of_a_symbol : holds_point (a_triangle (Some (pixels 1))) (pixels 5) (pixels 1) ≡ false
the_right_of_a_symbol = refl

left_of_a_symbol : holds_point (a_triangle (Some (pixels 1))) (pos 2999999) (pixels 1) ≡ false
left_of_a_symbol = refl

a_path_that_is_no_symbol : holds_point (a_triangle None) (pixels 4) (pixels 0) ≡ false
a_path_that_is_no_symbol = refl

a_path_without_a_point : holds_point (Path (point.Close ∷ []) (Some (pixels 5))) (pixels 0) (pixels 0) ≡ false
a_path_without_a_point = refl

a_line : holds_point (Line (pixels 0) (pixels 0) (pixels 9) (pixels 9)) (pixels 3) (pixels 3) ≡ false
a_line = refl
