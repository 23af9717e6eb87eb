-- Items and scenes as text, worked out.
use Rattle.std.specs.Prelude.{◌≡◌, ℕ, ◌*◌, ℤ, pos, neg_ℤ, Bool, true, false, Option, Some, None, List, [], ◌∷◌, ◌++◌, codes, refl}
use Rattle.std.specs.Fmt.{digits}
use Rattle.std.specs.Str.{chars}
use lib.Utf8.{encode}
use Rattle.fixed_num.specs.Number.{million}
use Rattle.fixed_num.specs.Decimal.{spelling, size_spelling, fraction_spelling, fraction_digits}
use Rattle.scene_tree.specs.declared.scene.Item.{Item}
use Rattle.scene_tree.specs.declared.scene.Panel.{Panel}
use Rattle.scene_tree.specs.declared.shape.Shape.{Shape}
use Rattle.scene_tree.specs.declared.shape.Shape.TheVariants.{Rect, Circle, Path, Line, Words}
use Rattle.scene_tree.specs.declared.shape.Point.{Point}
use Rattle.scene_tree.specs.declared.shape.Point.TheVariants as point
use Rattle.scene_tree.specs.declared.shape.Anchor.TheVariants.{Middle}
use Rattle.svg_text.specs.SceneText.{xml_text, item_text, svg_of}

abbrev pixels : ℕ → ℤ
pixels n = pos (n * million)

abbrev item : Shape → Option (List ℕ) → Option (List ℕ) → ℤ → ℤ → Item
item shape fill stroke width opacity =
    record { shape = shape; fill = fill; stroke = stroke; stroke_width = width; opacity = opacity; unit = None; key = None }

-- a line with its end
abbrev line : List ℕ → List ℕ
line text = text ++ 10 ∷ []

a_circle : item_text (item (Circle (pixels 100) (pixels 10) (pos 2738613)) (Some (codes "#4c78a8")) None (pixels 1) (pos 700000))
    ≡ line (codes "<circle cx=\"100\" cy=\"10\" r=\"2.738613\" fill=\"#4c78a8\" opacity=\"0.7\"/>")
unfolding spelling size_spelling fraction_spelling fraction_digits digits chars encode
a_circle = refl

abbrev steps : List Point
steps = point.Move (pixels 0) (pixels 200) ∷ point.Line (pos 66666667) (pixels 100) ∷ point.Move (pixels 200) (pixels 0) ∷ []

a_path : item_text (item (Path steps None) None (Some (codes "#4c78a8")) (pixels 2) (pixels 1))
    ≡ line (codes "<path d=\"M0,200 L66.666667,100 M200,0\" fill=\"none\" stroke=\"#4c78a8\" stroke-width=\"2\"/>")
unfolding spelling size_spelling fraction_spelling fraction_digits digits chars encode
a_path = refl

-- a black text
abbrev words : ℤ → ℤ → Bool → ℕ → List ℕ → Item
words x y is_title size text = item (Words x y is_title Middle size is_title text) (Some (codes "#000")) None (pixels 1) (pixels 1)

a_header : item_text (words (pixels 50) (neg_ℤ (pixels 5)) false 10 (codes "u"))
    ≡ line (codes "<text x=\"50\" y=\"-5\" text-anchor=\"middle\" font-size=\"10\" fill=\"#000\">u</text>")
unfolding spelling size_spelling fraction_spelling fraction_digits digits chars encode
a_header = refl

a_brush : item_text (item (Rect (pixels 0) (pixels 0) (pixels 50) (pixels 20)) (Some (codes "#333")) None (pixels 1) (pos 125000))
    ≡ line (codes "<rect x=\"0\" y=\"0\" width=\"50\" height=\"20\" fill=\"#333\" opacity=\"0.125\"/>")
unfolding spelling size_spelling fraction_spelling fraction_digits digits chars encode
a_brush = refl

-- without a fill an item is written so, whether it has a stroke or not
an_unpainted_rect : item_text (item (Rect (pixels 0) (pixels 0) (pixels 50) (pixels 20)) None None (pixels 1) (pixels 1))
    ≡ line (codes "<rect x=\"0\" y=\"0\" width=\"50\" height=\"20\" fill=\"none\"/>")
unfolding spelling size_spelling fraction_spelling fraction_digits digits chars encode
an_unpainted_rect = refl

a_tick : item_text (item (Line (neg_ℤ (pixels 5)) (pixels 80) (pixels 0) (pixels 80)) None (Some (codes "#888")) (pixels 1) (pixels 1))
    ≡ line (codes "<line x1=\"-5\" y1=\"80\" x2=\"0\" y2=\"80\" stroke=\"#888\" stroke-width=\"1\"/>")
unfolding spelling size_spelling fraction_spelling fraction_digits digits chars encode
a_tick = refl

a_turned_title : item_text (words (neg_ℤ (pixels 17)) (pixels 40) true 11 (codes "b"))
    ≡ line (codes "<text transform=\"translate(-17,40) rotate(-90)\" text-anchor=\"middle\""
    ++ codes " font-size=\"11\" font-weight=\"bold\" fill=\"#000\">b</text>")
unfolding spelling size_spelling fraction_spelling fraction_digits digits chars encode
a_turned_title = refl

-- a text has no stroke, also where the item has one
a_stroked_text : item_text (item (Words (pixels 50) (neg_ℤ (pixels 5)) false Middle 10 false (codes "u")) None (Some (codes "#000")) (pixels 2) (pixels 1))
    ≡ line (codes "<text x=\"50\" y=\"-5\" text-anchor=\"middle\" font-size=\"10\" fill=\"none\">u</text>")
unfolding spelling size_spelling fraction_spelling fraction_digits digits chars encode
a_stroked_text = refl

-- whole pictures

a_picture_without_panels : svg_of (record { width = pixels 10; height = pixels 210; panels = [] })
    ≡ line (codes "<svg xmlns=\"http://www.w3.org/2000/svg\" version=\"1.1\" width=\"10\" height=\"210\" viewBox=\"0 0 10 210\">")
    ++ line (codes "</svg>")
unfolding spelling size_spelling fraction_spelling fraction_digits digits
a_picture_without_panels = refl

abbrev bare_panel : Panel
bare_panel = record { x = pixels 5; y = pixels 5; width = pixels 1; height = pixels 2; view = None; facet = None; items = [] }

a_picture_of_one_panel : svg_of (record { width = pixels 11; height = pixels 12; panels = bare_panel ∷ [] })
    ≡ line (codes "<svg xmlns=\"http://www.w3.org/2000/svg\" version=\"1.1\" width=\"11\" height=\"12\" viewBox=\"0 0 11 12\">")
    ++ line (codes "<g transform=\"translate(5,5)\">") ++ line (codes "</g>") ++ line (codes "</svg>")
unfolding spelling size_spelling fraction_spelling fraction_digits digits
a_picture_of_one_panel = refl

markup_in_a_text : xml_text (codes "0 < &\"") ≡ codes "0 &lt; &amp;&quot;"
unfolding chars encode
markup_in_a_text = refl
