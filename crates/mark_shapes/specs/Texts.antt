-- Texts. An outer None stands for a number out of range, an inner one for what is lacking.
use Rattle.std.specs.Prelude.{◌≡◌, refl, ℕ, ◌*◌, ◌/◌, ◌%◌, ◌==◌, ◌&&◌, Bool, false, ℤ, pos, negsuc, ◌+ℤ◌, unsigned_abs, Option, Some, None, List, []}
use Rattle.std.specs.Prelude.{codes, if◌then◌else◌}
use Rattle.std.specs.Option.{option_map}
use Rattle.std.specs.Str.{bytes_eq}
use Rattle.fixed_num.specs.Number.{million, limit, rounded, floor_quotient}
use Rattle.fixed_num.specs.Ranges.{◌>>=◌, in_range, is_within}
use Rattle.cell_value.specs.declared.cell.Cell.{Cell}
use Rattle.scene_tree.specs.declared.shape.Anchor.{Anchor}
use Rattle.scene_tree.specs.declared.shape.Anchor.TheVariants.{Start, Middle, End}
use Rattle.scene_tree.specs.declared.shape.Shape.{Shape}
use Rattle.scene_tree.specs.declared.shape.Shape.TheVariants.{Words}
use Rattle.guide_text.specs.declared.labels.Shows.TheVariants.{Cells}
use Rattle.guide_text.specs.Labels.{label_of}
use Rattle.mark_shapes.specs.declared.shown.Shown.{Shown}
use Rattle.mark_shapes.specs.declared.shown.Shown.TheVariants.{Absent, Lacking, Given}
use Rattle.mark_shapes.specs.declared.texts.TextStyle.{TextStyle}
use Rattle.mark_shapes.specs.Shown.{or_default}

-- the anchor by the text of `align`; every other text, and none, is the middle
abbrev pub anchor_named : List ℕ → Anchor
anchor_named word = if bytes_eq word (codes "left") then Start else (if bytes_eq word (codes "right") then End else Middle)

abbrev pub anchor_of : Shown (List ℕ) → Anchor
anchor_of Absent = Middle
anchor_of Lacking = Middle
anchor_of (Given word) = anchor_named word

-- the size of a text that shows none, in pixels
abbrev pub default_font_size : ℕ
default_font_size = 11

-- whether a number is whole and from 1 to 1,000
abbrev pub is_font_size : ℤ → Bool
is_font_size n = is_within (pos million) (pos (1000 * million)) n && (unsigned_abs n % million == 0)

-- the size of a text by the number that is given for it; every other number counts as absent
abbrev pub whole_size : ℤ → ℕ
whole_size n = if is_font_size n then unsigned_abs n / million else default_font_size

abbrev pub font_size_of : Shown ℤ → ℕ
font_size_of Absent = default_font_size
font_size_of Lacking = default_font_size
font_size_of (Given n) = whole_size n

-- how far a text of a size stands below its place where its middle stands there: 0.3 of its size
abbrev pub middle_below : ℕ → ℤ
middle_below size = rounded (pos (size * million * 3)) 10

-- how far it stands below its place by the text of `baseline`; every other text, and none, is the middle
abbrev pub below_named : ℕ → List ℕ → ℤ
below_named size word =
    if bytes_eq word (codes "top") then pos (size * million)
    else (if bytes_eq word (codes "bottom") then pos 0
    else (if bytes_eq word (codes "alphabetic") then pos 0 else middle_below size))

abbrev pub below_of : ℕ → Shown (List ℕ) → ℤ
below_of size Absent = middle_below size
below_of size Lacking = middle_below size
below_of size (Given word) = below_named size word

-- the words of a cell, if there is one: its label by a format where one is given, or else its display
abbrev pub words_of_cell : Option (List ℕ) → Option Cell → Option (List ℕ)
words_of_cell format shown = option_map (label_of Cells format) shown

-- the words that are shown, no words where they are absent
abbrev pub words_or_none : Shown (List ℕ) → Option (List ℕ)
words_or_none words = or_default [] words

-- a place moved by two offsets, of which the second may lack
abbrev pub place_moved : Option ℤ → ℤ → Option ℤ → Option (Option ℤ)
place_moved None first second = Some None
place_moved (Some at) first None = Some None
place_moved (Some at) first (Some second) = option_map Some (in_range (at +ℤ first +ℤ second))

-- words on one line, neither turned nor bold
abbrev pub line_of_words : Option ℤ → Option ℤ → Anchor → ℕ → Option (List ℕ) → Option Shape
line_of_words across down anchor size words = do
  x ← across
  y ← down
  text ← words
  Some (Words x y false anchor size false text)

-- how a text is set, by what its channels show of its size, its anchor and its baseline
abbrev pub style_of : Shown ℤ → Shown (List ℕ) → Shown (List ℕ) → TextStyle
style_of size align baseline =
    record { size = font_size_of size; anchor = anchor_of align; below = below_of (font_size_of size) baseline }

-- a text at a place: it is moved down by its baseline, then by the two offsets
abbrev pub text_with : TextStyle → Option ℤ → Option ℤ → Option ℤ → Option ℤ → Option (List ℕ) → Option (Option Shape)
text_with style x y dx dy words = do
  across ← place_moved x (pos 0) dx
  down ← place_moved y style.below dy
  Some (line_of_words across down style.anchor style.size words)

-- a text at a place by what its channels show: absent offsets are 0, absent words none
abbrev pub text_by : TextStyle → Option ℤ → Option ℤ → Shown ℤ → Shown ℤ → Shown (List ℕ) → Option (Option Shape)
text_by style x y dx dy words = text_with style x y (or_default (pos 0) dx) (or_default (pos 0) dy) (words_or_none words)

-- The rules at work, in millionths.

anchors_by_their_names : (anchor_of (Given (codes "left")) ≡ Start) × (anchor_of (Given (codes "right")) ≡ End)
    × (anchor_of (Given (codes "center")) ≡ Middle) × (anchor_of (Given (codes "middle")) ≡ Middle) × (anchor_of Absent ≡ Middle)
anchors_by_their_names = (refl, refl, refl, refl, refl)

sizes_of_texts : (font_size_of (Given (pos (20 * million))) ≡ 20) × (font_size_of (Given (pos million)) ≡ 1)
    × (font_size_of (Given (pos (1000 * million))) ≡ 1000) × (font_size_of Absent ≡ 11)
sizes_of_texts = (refl, refl, refl, refl)

-- none of these is a whole number from 1 to 1,000
no_sizes_of_texts : (font_size_of (Given (pos 10500000)) ≡ 11) × (font_size_of (Given (pos 0)) ≡ 11)
    × (font_size_of (Given (pos (1001 * million))) ≡ 11) × (font_size_of (Given (negsuc 19999999)) ≡ 11) × (font_size_of Lacking ≡ 11)
no_sizes_of_texts = (refl, refl, refl, refl, refl)

baselines_by_their_names : (below_of 20 (Given (codes "top")) ≡ pos (20 * million)) × (below_of 20 (Given (codes "bottom")) ≡ pos 0)
    × (below_of 20 (Given (codes "alphabetic")) ≡ pos 0) × (below_of 11 (Given (codes "middle")) ≡ pos 3300000)
    × (below_of 11 (Given (codes "hanging")) ≡ pos 3300000) × (below_of 11 Absent ≡ pos 3300000)
unfolding rounded floor_quotient
baselines_by_their_names = (refl, refl, refl, refl, refl, refl)

-- a text at (40, 20) that is moved by (2, -1), with its middle at its place
a_text : text_with (style_of Absent (Given (codes "left")) Absent) (Some (pos (40 * million))) (Some (pos (20 * million)))
    (Some (pos (2 * million))) (Some (negsuc 999999)) (Some (codes "28"))
    ≡ Some (Some (Words (pos (42 * million)) (pos 22300000) false Start 11 false (codes "28")))
unfolding rounded floor_quotient
a_text = refl

-- without a place, an offset or words there is none
no_texts : (text_with (style_of Absent Absent Absent) None (Some (pos 0)) (Some (pos 0)) (Some (pos 0)) (Some []) ≡ Some None)
    × (text_with (style_of Absent Absent Absent) (Some (pos 0)) (Some (pos 0)) (Some (pos 0)) None (Some []) ≡ Some None)
    × (text_with (style_of Absent Absent Absent) (Some (pos 0)) (Some (pos 0)) (Some (pos 0)) (Some (pos 0)) None ≡ Some None)
unfolding rounded floor_quotient
no_texts = (refl, refl, refl)

-- a place out of range, also where the other lacks; only where the text stands in the end counts
too_far : (text_with (style_of Absent Absent Absent) None (Some (pos limit)) (Some (pos 0)) (Some (pos 0)) (Some []) ≡ None)
    × (text_with (style_of Absent Absent Absent) (Some (pos 0)) (Some (pos limit)) (Some (pos 0)) (Some (negsuc 3299999)) (Some [])
    ≡ Some (Some (Words (pos 0) (pos limit) false Middle 11 false [])))
unfolding rounded floor_quotient
too_far = (refl, refl)
