-- The SVG text of a scene: SVG 1.1, in UTF-8.
use Rattle.std.specs.Prelude.{◌≡◌, refl, ℕ, ◌*◌, ◌==◌, not, ◌||◌, ◌&&◌, ℤ, pos, Bool, true, false, Option, Some, None, List, [], ◌∷◌, ◌++◌}
use Rattle.std.specs.Prelude.{nat_lt, nat_le, if◌then◌else◌, codes, encode_utf8}
use Rattle.std.specs.List.{flat_map}
use Rattle.std.specs.Str.{chars}
use Rattle.fixed_num.specs.Number.{million}
use Rattle.fixed_num.specs.Decimal.{spelling}
use Rattle.scene_tree.specs.declared.scene.Scene.{Scene}
use Rattle.scene_tree.specs.declared.scene.Panel.{Panel}
use Rattle.scene_tree.specs.declared.scene.Item.{Item}
use Rattle.scene_tree.specs.declared.shape.Shape.{Shape}
use Rattle.scene_tree.specs.declared.shape.Shape.TheVariants.{Rect, Circle, Path, Line, Words}
use Rattle.scene_tree.specs.declared.shape.Point.{Point}
use Rattle.scene_tree.specs.declared.shape.Point.TheVariants as point
use Rattle.scene_tree.specs.declared.shape.Anchor.{Anchor}
use Rattle.scene_tree.specs.declared.shape.Anchor.TheVariants.{Start, Middle, End}

-- a control character of Unicode
abbrev pub is_control : ℕ → Bool
is_control c = nat_lt c 32 || (nat_le 127 c && nat_lt c 160)

-- what is printed as U+FFFD: a control other than tab, line feed and carriage return, and U+FFFE and U+FFFF, which XML 1.0 can't hold
abbrev pub is_unprintable : ℕ → Bool
is_unprintable c = (is_control c && not (c == 9 || c == 10 || c == 13)) || c == 65534 || c == 65535

-- a character in a text of XML 1.0: markup as entities, and any other as it is where it is printable
abbrev pub xml_char : ℕ → List ℕ
xml_char c =
    if c == 38 then codes "&amp;"
    else (if c == 60 then codes "&lt;"
    else (if c == 62 then codes "&gt;"
    else (if c == 34 then codes "&quot;"
    else (if is_unprintable c then encode_utf8 65533
    else encode_utf8 c))))

a_delete : is_unprintable 127 ≡ true
a_delete = refl

the_first_after_the_controls : is_unprintable 160 ≡ false
the_first_after_the_controls = refl

a_line_feed : is_unprintable 10 ≡ false
a_line_feed = refl

no_character : is_unprintable 0xFFFE ≡ true
no_character = refl

-- a text in XML
abbrev pub xml_text : List ℕ → List ℕ
xml_text text = flat_map xml_char (chars text)

-- an attribute, with a space before it
abbrev pub attribute : List ℕ → List ℕ → List ℕ
attribute name value = codes " " ++ name ++ codes "=\"" ++ value ++ codes "\""

abbrev pub numeric_attribute : List ℕ → ℤ → List ℕ
numeric_attribute name m = attribute name (spelling m)

-- two numbers with a comma between them
abbrev pub pair_text : ℤ → ℤ → List ℕ
pair_text x y = spelling x ++ codes "," ++ spelling y

-- a step of a path
abbrev pub point_text : Point → List ℕ
point_text (point.Move x y) = codes "M" ++ pair_text x y
point_text (point.Line x y) = codes "L" ++ pair_text x y
point_text point.Close = codes "Z"

-- the steps of a path, with single spaces between them
abbrev pub path_text : List Point → List ℕ
path_text [] = []
path_text (first ∷ others) = point_text first ++ flat_map (λ p. codes " " ++ point_text p) others

-- the way to where a turned text stands
abbrev pub turned_text : ℤ → ℤ → List ℕ
turned_text x y = attribute (codes "transform") (codes "translate(" ++ pair_text x y ++ codes ") rotate(-90)")

-- where a text stands: its place, or for a turned one the way there
abbrev pub place_text : Bool → ℤ → ℤ → List ℕ
place_text false x y = numeric_attribute (codes "x") x ++ numeric_attribute (codes "y") y
place_text true x y = turned_text x y

-- which part of a text stands at its place
abbrev pub anchor_text : Anchor → List ℕ
anchor_text Start = codes "start"
anchor_text Middle = codes "middle"
anchor_text End = codes "end"

-- a bold text says so
abbrev pub weight_text : Bool → List ℕ
weight_text true = attribute (codes "font-weight") (codes "bold")
weight_text false = []

-- which part of a text stands at its place, and its size
abbrev pub font_text : List ℕ → ℤ → List ℕ
font_text anchor size = attribute (codes "text-anchor") anchor ++ numeric_attribute (codes "font-size") size

-- how a text is written: its anchor, its size in pixels, and whether it is bold
abbrev pub letters_text : Anchor → ℕ → Bool → List ℕ
letters_text anchor size bold = font_text (anchor_text anchor) (pos (size * million)) ++ weight_text bold

-- where a text stands and how it is written
abbrev pub words_text : ℤ → ℤ → Bool → Anchor → ℕ → Bool → List ℕ
words_text x y turned anchor size bold = codes "text" ++ place_text turned x y ++ letters_text anchor size bold

-- a path, by its steps
abbrev pub path_element : List Point → List ℕ
path_element points = codes "path" ++ attribute (codes "d") (path_text points)

-- a circle, by its centre and its radius
abbrev pub circle_text : ℤ → ℤ → ℤ → List ℕ
circle_text x y r =
    codes "circle" ++ numeric_attribute (codes "cx") x ++ numeric_attribute (codes "cy") y ++ numeric_attribute (codes "r") r

-- a shape, as an element's name and the attributes of its place
abbrev pub shape_text : Shape → List ℕ
shape_text (Rect x y width height) = codes "rect" ++ numeric_attribute (codes "x") x ++ numeric_attribute (codes "y") y
    ++ numeric_attribute (codes "width") width ++ numeric_attribute (codes "height") height
shape_text (Circle x y r) = circle_text x y r
shape_text (Path points picked) = path_element points
shape_text (Line x1 y1 x2 y2) = codes "line" ++ numeric_attribute (codes "x1") x1 ++ numeric_attribute (codes "y1") y1
    ++ numeric_attribute (codes "x2") x2 ++ numeric_attribute (codes "y2") y2
shape_text (Words x y turned anchor size bold text) = words_text x y turned anchor size bold

-- the fill, `none` where there is none; a line never has one
abbrev pub fill_text : Shape → Option (List ℕ) → List ℕ
fill_text (Line x1 y1 x2 y2) fill = []
fill_text shape (Some fill) = attribute (codes "fill") (xml_text fill)
fill_text shape None = attribute (codes "fill") (codes "none")

-- a stroke with its width
abbrev pub outline_text : List ℕ → ℤ → List ℕ
outline_text stroke width = attribute (codes "stroke") (xml_text stroke) ++ numeric_attribute (codes "stroke-width") width

-- the stroke, if there is one; a text never has one
abbrev pub stroke_text : Shape → Option (List ℕ) → ℤ → List ℕ
stroke_text (Words x y turned anchor size bold text) stroke width = []
stroke_text shape (Some stroke) width = outline_text stroke width
stroke_text shape None width = []

-- the opacity, unless it is 1
abbrev pub opacity_text : ℤ → List ℕ
opacity_text (pos m) = if m == million then [] else numeric_attribute (codes "opacity") (pos m)
opacity_text m = numeric_attribute (codes "opacity") m

-- the end of an element: a text holds its words, and all others hold nothing
abbrev pub end_text : Shape → List ℕ
end_text (Words x y turned anchor size bold text) = codes ">" ++ xml_text text ++ codes "</text>\n"
end_text shape = codes "/>\n"

-- the colours of an item
abbrev pub paint_text : Item → List ℕ
paint_text item =
    fill_text item.shape item.fill ++ stroke_text item.shape item.stroke item.stroke_width ++ opacity_text item.opacity

-- an item is one line
abbrev pub item_text : Item → List ℕ
item_text item = codes "<" ++ shape_text item.shape ++ paint_text item ++ end_text item.shape

-- the beginning of a group that is moved to an origin
abbrev pub origin_text : ℤ → ℤ → List ℕ
origin_text x y = codes "<g transform=\"translate(" ++ pair_text x y ++ codes ")\">\n"

-- a panel is a group, moved to its origin
abbrev pub panel_text : Panel → List ℕ
panel_text panel = origin_text panel.x panel.y ++ flat_map item_text panel.items ++ codes "</g>\n"

-- the first line, with the size of the picture
abbrev pub head_text : ℤ → ℤ → List ℕ
head_text width height = codes "<svg xmlns=\"http://www.w3.org/2000/svg\" version=\"1.1\""
    ++ numeric_attribute (codes "width") width ++ numeric_attribute (codes "height") height
    ++ attribute (codes "viewBox") (codes "0 0 " ++ spelling width ++ codes " " ++ spelling height) ++ codes ">\n"

-- a scene is an SVG element with a group for each panel
abbrev pub svg_of : Scene → List ℕ
svg_of scene = head_text scene.width scene.height ++ flat_map panel_text scene.panels ++ codes "</svg>\n"
