-- How cells are displayed.
use Rattle.std.specs.Prelude.{◌≡◌, ℕ, true, false, List, ◌++◌, pos, negsuc, codes, refl}
use Rattle.std.specs.Fmt.{digits}
use Rattle.fixed_num.specs.Decimal.{spelling, size_spelling, fraction_spelling, fraction_digits}
use Rattle.cell_value.specs.declared.cell.Cell.{Cell}
use Rattle.cell_value.specs.declared.cell.Cell.TheVariants.{Null, Flag, Number, Text, Pair}

-- how a cell is displayed
abbrev pub display_of : Cell → List ℕ
display_of Null = codes "null"
display_of (Flag true) = codes "true"
display_of (Flag false) = codes "false"
display_of (Number n) = spelling n
display_of (Text t) = t
display_of (Pair a b) = codes "[" ++ spelling a ++ codes "," ++ spelling b ++ codes "]"

a_flag_is_displayed : display_of (Flag false) ≡ codes "false"
a_flag_is_displayed = refl

a_number_is_displayed : display_of (Number (negsuc 2499999)) ≡ codes "-2.5"
unfolding spelling size_spelling fraction_spelling fraction_digits digits
a_number_is_displayed = refl

a_text_is_displayed : display_of (Text (codes "a,b")) ≡ codes "a,b"
a_text_is_displayed = refl

a_pair_is_displayed : display_of (Pair (negsuc 0) (pos 12000000)) ≡ codes "[-0.000001,12]"
unfolding spelling size_spelling fraction_spelling fraction_digits digits
a_pair_is_displayed = refl
