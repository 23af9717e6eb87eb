-- How wide texts are drawn.
use Rattle.std.specs.Prelude.{◌≡◌, refl, ℕ, ◌*◌, ◌^◌, min, false, List, [], ◌∷◌, codes}
use Rattle.std.specs.Str.{chars}
use Rattle.unicode_width.proofs.Computing.{unicode_width}
use Rattle.unicode_width.specs.Width.{str_width}

-- the greatest width of a text, in pixels
abbrev pub greatest_size : ℕ
greatest_size = 10 ^ 11

-- the columns that a text takes: 2 for a wide character, none for a mark on the one before, else 1
unfoldable pub columns_of : List ℕ → ℕ
columns_of text = str_width false (chars text)

-- the width of a text in pixels, with so many of them to a column, cut to 10^11
abbrev pub width_of : ℕ → List ℕ → ℕ
width_of column text = min (columns_of text * column) greatest_size

-- ---- worked examples

widths_of_labels : (width_of 6 (codes "12") ≡ 12) × (width_of 7 (codes "c") ≡ 7) × (width_of 8 [] ≡ 0)
unfolding columns_of unicode_width
widths_of_labels = (refl, refl, refl)

-- the character U+65E5 takes two columns, and U+0301 stands on the e before it
wide_and_marked : (width_of 6 (230 ∷ 151 ∷ 165 ∷ []) ≡ 12) × (width_of 6 (101 ∷ 204 ∷ 129 ∷ []) ≡ 6)
unfolding columns_of unicode_width
wide_and_marked = (refl, refl)
