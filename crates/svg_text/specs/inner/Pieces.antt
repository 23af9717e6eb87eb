-- Texts in pieces.
use Rattle.std.specs.Prelude.{◌≡◌, refl, ℕ, ◌==◌, ◌||◌, not, nat_lt, Bool, true, false, List, if◌then◌else◌}
use Rattle.fixed_num.specs.Decimal.{spelling}
use Rattle.svg_text.specs.declared.pieces.Piece.{Piece}
use Rattle.svg_text.specs.declared.pieces.Piece.TheVariants.{Plain, Number, Escaped}
use Rattle.svg_text.specs.SceneText.{xml_text}

-- a piece as it is printed
abbrev pub piece_text : Piece → List ℕ
piece_text (Plain text) = text.now
piece_text (Number number) = spelling number
piece_text (Escaped text) = xml_text text.now

-- a byte that no character has which is printed otherwise: no markup, no control but tab, line feed and carriage return, and not the first
-- byte of U+0080 to U+00BF or of U+F000 to U+FFFF
abbrev pub is_plain : ℕ → Bool
is_plain b =
    if b == 9 || b == 10 || b == 13 then true
    else not (nat_lt b 32 || b == 34 || b == 38 || b == 60 || b == 62 || b == 127 || b == 194 || b == 239)

a_quote : is_plain 34 ≡ false
a_quote = refl

the_first_byte_of_an_accented_letter : is_plain 195 ≡ true
the_first_byte_of_an_accented_letter = refl
