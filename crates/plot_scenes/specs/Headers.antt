-- Headers: what stands beside or above a plot says which cell of a facet it shows.
use Rattle.std.specs.Prelude.{◌≡◌, refl, ℕ, true, false, if◌then◌else◌, ℤ, pos, neg_ℤ, Some, List, [], ◌∷◌, map, codes}
use Rattle.fixed_num.specs.Number.{rounded, floor_quotient}
use Rattle.scene_tree.specs.declared.scene.Item.{Item}
use Rattle.scene_tree.specs.declared.shape.Shape.TheVariants.{Words}
use Rattle.scene_tree.specs.declared.shape.Anchor.TheVariants.{Middle}
use Rattle.guide_kit.specs.Items.{words_at, label_style}
use Rattle.guide_kit.specs.Measures.{pixels, plus, minus, half}
use Rattle.guide_kit.specs.declared.frames.Side.{Side}
use Rattle.guide_kit.specs.declared.frames.Side.TheVariants.{Top, Left}
use Rattle.plot_scenes.specs.declared.extents.Extents.{Extents}
use Rattle.plot_scenes.specs.declared.headers.Header.{Header}
use Rattle.plot_scenes.specs.Extents.{no_extents, widened}
use Rattle.plot_scenes.specs.Titles.{with_title}

-- how far a header extends
abbrev pub header_space : ℤ
header_space = pixels 15

-- where the words of a header stand at a plot of this size with these extents: 5 pixels outside them, at the middle of the side
abbrev pub header_item : ℤ → ℤ → Extents → Header → Item
header_item width height e h =
    if h.is_beside then words_at (label_style true Middle) (minus (pos 0) (plus e.left (pixels 5))) (half height) h.text
    else words_at (label_style false Middle) (half width) (minus (pos 0) (plus e.top (pixels 5))) h.text

abbrev pub header_side : Header → Side
header_side h = if h.is_beside then Left else Top

abbrev pub with_header : Extents → Header → Extents
with_header e h = widened (header_side h) header_space e

-- headers in their order, each outside those before it: their items, and the extents with them
abbrev pub header_items : ℤ → ℤ → Extents → List Header → List Item
header_items width height e [] = []
header_items width height e (h ∷ others) = header_item width height e h ∷ header_items width height (with_header e h) others

abbrev pub with_headers : Extents → List Header → Extents
with_headers e [] = e
with_headers e (h ∷ others) = with_headers (with_header e h) others

-- ---- worked examples

abbrev left_of_28 : Extents
left_of_28 = record no_extents { left = pixels 28 }

abbrev below_zero : ℕ → ℤ
below_zero n = neg_ℤ (pixels n)

-- a header above a plot 100 pixels wide
a_header_above : (header_item (pixels 100) (pixels 20) no_extents (record { is_beside = false; text = codes "u" })).shape
    ≡ Words (pixels 50) (below_zero 5) false Middle 10 false (codes "u")
unfolding plus minus half rounded floor_quotient
a_header_above = refl

-- beside an axis that extends 28, a header of 15 and one of 15 outside it
abbrev two_beside : List Header
two_beside = record { is_beside = true; text = codes "r" } ∷ record { is_beside = true; text = codes "s" } ∷ []

headers_beside : map (λ (item : Item). item.shape) (header_items (pixels 100) (pixels 20) left_of_28 two_beside)
    ≡ Words (below_zero 33) (pixels 10) true Middle 10 false (codes "r") ∷ Words (below_zero 48) (pixels 10) true Middle 10 false (codes "s") ∷ []
unfolding plus minus half rounded floor_quotient
headers_beside = refl

extents_with_headers : with_title (Some (codes "t")) (with_headers left_of_28 (record { is_beside = false; text = codes "c" } ∷ two_beside))
    ≡ record { left = pixels 58; top = pixels 38; right = pos 0; bottom = pos 0 }
unfolding plus
extents_with_headers = refl
