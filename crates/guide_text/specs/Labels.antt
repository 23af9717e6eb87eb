-- Labels of cells.
use Rattle.std.specs.Prelude.{◌≡◌, refl, ℕ, true, List, codes, pos, Option, Some, None, Result, Ok, Err}
use Rattle.std.specs.Option.{option_map_or}
use Rattle.std.specs.Str.{chars}
use Rattle.std.specs.Char.{encode_utf8}
use Rattle.std.specs.Fmt.{digits as decimal_digits}
use Rattle.fixed_num.specs.Number.{rounded, floor_quotient}
use Rattle.fixed_num.specs.Decimal.{spelling, size_spelling, fraction_spelling, fraction_digits}
use Rattle.cell_value.specs.declared.cell.Cell.{Cell}
use Rattle.cell_value.specs.declared.cell.Cell.TheVariants.{Null, Flag, Number, Text}
use Rattle.cell_value.specs.Display.{display_of}
use Rattle.time_calc.specs.declared.labels.LabelError.{LabelError}
use Rattle.time_calc.specs.Instants.{day_of_instant}
use Rattle.time_calc.specs.Calendar.{date_of_count, greatest_passing, days_before_year, days_of_months}
use Rattle.time_calc.specs.Labels.{label, pieces, directive_of, digits}
use Rattle.scale_kit.specs.Places.{the_number, the_instant}
use Rattle.tick_kit.specs.Labels.{number_label}
use Rattle.tick_kit.specs.TimeLabels.{time_label}
use Rattle.guide_text.specs.declared.formats.NumberFormat.{NumberFormat}
use Rattle.guide_text.specs.declared.labels.Shows.{Shows}
use Rattle.guide_text.specs.declared.labels.Shows.TheVariants.{Numbers, Instants, Cells}
use Rattle.guide_text.specs.Formats.{number_format_of}
use Rattle.guide_text.specs.Numbers.{formatted}

-- the label of a cell without a format: of a number with so many decimals, of an instant by the greatest unit that it doesn't begin; every
-- other cell, and each cell of a list, is displayed
abbrev pub plain_label : Shows → Cell → List ℕ
plain_label (Numbers decimals) v = option_map_or (λ n. number_label n decimals) (the_number v) (display_of v)
plain_label (Instants decimals) v = option_map_or time_label (the_instant v) (display_of v)
plain_label Cells v = display_of v

-- the decimals that the labels have of their own: a list has none
abbrev pub own_decimals : Shows → Option ℕ
own_decimals (Numbers decimals) = Some decimals
own_decimals (Instants decimals) = Some decimals
own_decimals Cells = None

-- a number format labels numbers; every other cell is displayed
abbrev pub number_labelled : NumberFormat → Shows → Cell → List ℕ
number_labelled f shows v = option_map_or (formatted f (own_decimals shows)) (the_number v) (display_of v)

-- what a pattern labels, or else
abbrev pub text_or : Result (List ℕ) LabelError → List ℕ → List ℕ
text_or (Ok text) other = text
text_or (Err fault) other = other

-- a pattern labels numbers that are instants in range; every other cell is displayed
abbrev pub pattern_labelled : List ℕ → Cell → List ℕ
pattern_labelled pattern v = option_map_or (λ n. text_or (label n pattern) (display_of v)) (the_number v) (display_of v)

-- a text that is no number format is a pattern
abbrev pub labelled_by : Option NumberFormat → List ℕ → Shows → Cell → List ℕ
labelled_by (Some f) format shows v = number_labelled f shows v
labelled_by None format shows v = pattern_labelled format v

-- the label of a cell, by a format where one is given
unfoldable pub label_of : Shows → Option (List ℕ) → Cell → List ℕ
label_of shows None v = plain_label shows v
label_of shows (Some format) v = labelled_by (number_format_of format) format shows v

-- ---- worked examples

labels_of_numbers : (label_of (Numbers 1) None (Number (pos 1234500000)) ≡ codes "1,234.5")
    × (label_of Cells None (Number (pos 1234500000)) ≡ codes "1234.5")
    × (label_of (Numbers 1) None Null ≡ codes "null")
unfolding label_of number_label rounded floor_quotient decimal_digits spelling size_spelling fraction_spelling fraction_digits
labels_of_numbers = (refl, refl, refl)

labels_by_number_formats : (label_of (Numbers 1) (Some (codes "f")) (Number (pos 1234500000)) ≡ codes "1234.5")
    × (label_of Cells (Some (codes ",.2f")) (Number (pos 1234500000)) ≡ codes "1,234.50")
    × (label_of Cells (Some (codes "d")) (Text (codes "a")) ≡ codes "a")
unfolding label_of number_format_of formatted rounded floor_quotient decimal_digits
labels_by_number_formats = (refl, refl, refl)

labels_by_patterns : (label_of Cells (Some (codes "%Y Q%q")) (Number (pos 0)) ≡ codes "1970 Q1")
    × (label_of (Instants 0) (Some (codes "%Y")) (Flag true) ≡ codes "true")
    × (label_of Cells (Some (codes "%Y")) (Number (pos 999999999999999000000)) ≡ codes "999999999999999")
unfolding label_of number_format_of pieces directive_of chars encode_utf8 digits day_of_instant date_of_count greatest_passing
    days_before_year days_of_months spelling size_spelling fraction_spelling fraction_digits decimal_digits
labels_by_patterns = (refl, refl, refl)
