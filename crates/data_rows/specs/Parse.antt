-- As what fields are parsed.
use Rattle.std.specs.Prelude.{◌≡◌, refl, ℕ, not, ◌||◌, ℤ, pos, Option, Some, None, Ok, Err, true, false, List, [], ◌∷◌, map, codes, if◌then◌else◌}
use Rattle.std.specs.Str.{bytes_eq}
use Rattle.std.specs.Map.{update_all}
use Rattle.fixed_num.specs.Number.{rounded, floor_quotient}
use Rattle.fixed_num.specs.JsonNumber.{decimal_value, scaled}
use Rattle.fixed_num.specs.Front.{Read, decimal_at, parts_at, whole_at, fraction_at, exponent_at, signed_at, digits_at, leading_digits, after_digits}
use Rattle.fixed_num.specs.Decimal.{spelling, size_spelling, fraction_spelling, fraction_digits}
use Rattle.std.specs.Fmt.{digits}
use Rattle.time_calc.specs.Texts.{read_instant}
use Rattle.cell_value.specs.declared.cell.Cell.{Cell}
use Rattle.cell_value.specs.declared.cell.Cell.TheVariants as cell
use Rattle.data_rows.specs.declared.kinds.ParseKind.{ParseKind}
use Rattle.data_rows.specs.declared.kinds.ParseKind.TheVariants as kind

-- the kind of a field: of several under its name the last
abbrev pub kind_of : List (List ℕ × ParseKind) → List ℕ → Option ParseKind
kind_of parse = update_all bytes_eq (λ name. None) parse

-- a number after which nothing stands
abbrev pub number_alone : Read (Option ℤ) → Option (Option ℤ)
number_alone (Ok (number, [])) = Some number
number_alone (Ok (number, b ∷ bytes)) = None
number_alone (Err left) = None

-- the JSON number that a text is, None within where it is out of range; None where it is none
unfoldable pub number_of : List ℕ → Option (Option ℤ)
number_of text = number_alone (decimal_at text)

-- a number as a cell, null where there is none
abbrev pub number_or_null : Option ℤ → Cell
number_or_null None = cell.Null
number_or_null (Some n) = cell.Number n

-- the number in range that a text is, else null
abbrev pub number_parsed : Option (Option ℤ) → Cell
number_parsed None = cell.Null
number_parsed (Some number) = number_or_null number

-- an empty text is null, `false` and `0` are false, and every other text is true
abbrev pub flag_parsed : List ℕ → Cell
flag_parsed text =
    if bytes_eq text [] then cell.Null else cell.Flag (not (bytes_eq text (codes "false") || bytes_eq text (codes "0")))

-- the cell of a text that is parsed
abbrev pub text_parsed : ParseKind → List ℕ → Cell
text_parsed kind.Number text = number_parsed (number_of text)
text_parsed kind.Boolean text = flag_parsed text
text_parsed kind.Text text = cell.Text text
text_parsed kind.Date text = number_or_null (read_instant text)

-- only texts are parsed
abbrev pub parsed : ParseKind → Cell → Cell
parsed kind (cell.Text text) = text_parsed kind text
parsed kind other = other

-- a cell of a field, which may have no kind
abbrev pub parsed_as : Option ParseKind → Cell → Cell
parsed_as None c = c
parsed_as (Some kind) c = parsed kind c

-- a number of CSV is a text again where a text or a flag is wanted: its display
abbrev pub number_parsed_as : Option ParseKind → ℤ → Cell
number_parsed_as (Some kind.Text) n = cell.Text (spelling n)
number_parsed_as (Some kind.Boolean) n = flag_parsed (spelling n)
number_parsed_as other n = cell.Number n

-- The rules at work.

the_last_kind_of_a_name : kind_of ((codes "a", kind.Number) ∷ (codes "b", kind.Text) ∷ (codes "a", kind.Date) ∷ []) (codes "a") ≡ Some kind.Date
the_last_kind_of_a_name = refl

flags_of_texts : map flag_parsed ([] ∷ codes "0" ∷ codes "false" ∷ codes "0.0" ∷ codes "no" ∷ [])
    ≡ cell.Null ∷ cell.Flag false ∷ cell.Flag false ∷ cell.Flag true ∷ cell.Flag true ∷ []
flags_of_texts = refl

numbers_of_texts : map (text_parsed kind.Number) (codes "1.5" ∷ codes "01" ∷ codes "1e16" ∷ [] ∷ [])
    ≡ cell.Number (pos 1500000) ∷ cell.Null ∷ cell.Null ∷ cell.Null ∷ []
unfolding number_of decimal_at parts_at whole_at fraction_at exponent_at signed_at
    digits_at leading_digits after_digits decimal_value scaled rounded floor_quotient
numbers_of_texts = refl

a_number_stays : parsed_as (Some kind.Boolean) (cell.Number (pos 0)) ≡ cell.Number (pos 0)
a_number_stays = refl

numbers_of_csv : map (λ k. number_parsed_as k (pos 1500000)) (None ∷ Some kind.Text ∷ Some kind.Boolean ∷ Some kind.Date ∷ [])
    ≡ cell.Number (pos 1500000) ∷ cell.Text (codes "1.5") ∷ cell.Flag true ∷ cell.Number (pos 1500000) ∷ []
unfolding spelling size_spelling fraction_spelling fraction_digits digits
numbers_of_csv = refl
