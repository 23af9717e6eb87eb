-- The label of an instant by a pattern.
use Rattle.std.specs.Prelude.{ℕ, zero, suc, ◌+◌, ◌/◌, ◌%◌, ◌==◌, ◌&&◌, Bool, true, false, if◌then◌else◌, List, [], ◌∷◌, ◌++◌, find}
use Rattle.std.specs.Prelude.{slice_get, codes, ℤ, pos, Option, Some, None, option_map, unwrap_or, Result, Ok, Err, ◌≡◌, refl}
use Rattle.std.specs.Option.{option_and_then, is_some}
use Rattle.std.specs.List.{flat_map, list_any}
use Rattle.std.specs.Str.{chars}
use Rattle.std.specs.Char.{encode_utf8}
use Rattle.case_table.specs.declared.unit.PartOf.TheVariants as part
use Rattle.time_calc.specs.declared.labels.LabelError.{LabelError}
use Rattle.time_calc.specs.declared.labels.LabelError.TheVariants as fault
use Rattle.time_calc.specs.declared.directives.Directive.{Directive}
use Rattle.time_calc.specs.declared.directives.Directive.TheVariants.{Year, Quarter, Month, Date, Hours, HoursOfTwelve, Minutes, Seconds}
use Rattle.time_calc.specs.declared.directives.Directive.TheVariants.{Milliseconds, ShortMonth, LongMonth, ShortDay, HalfOfDay, Percent}
use Rattle.time_calc.specs.Instants.{instant_at, day_of_instant, time_of_instant}
use Rattle.time_calc.specs.Calendar.{date_of_count, greatest_passing, days_before_year, days_of_months}
use Rattle.time_calc.specs.Parts.{part_of}
use Rattle.time_calc.specs.Texts.{month_names}

abbrev pub long_month_names : List (List ℕ)
long_month_names =
    codes "January" ∷ codes "February" ∷ codes "March" ∷ codes "April" ∷ codes "May" ∷ codes "June" ∷
    codes "July" ∷ codes "August" ∷ codes "September" ∷ codes "October" ∷ codes "November" ∷ codes "December" ∷ []

abbrev pub day_names : List (List ℕ)
day_names = codes "Sun" ∷ codes "Mon" ∷ codes "Tue" ∷ codes "Wed" ∷ codes "Thu" ∷ codes "Fri" ∷ codes "Sat" ∷ []

abbrev pub half_names : List (List ℕ)
half_names = codes "AM" ∷ codes "PM" ∷ []

-- the letters of the directives, by their codes: Y m d H I M S L b a B p q %
abbrev pub directives : List (ℕ × Directive)
directives =
    (89, Year) ∷ (109, Month) ∷ (100, Date) ∷ (72, Hours) ∷ (73, HoursOfTwelve) ∷ (77, Minutes) ∷ (83, Seconds) ∷
    (76, Milliseconds) ∷ (98, ShortMonth) ∷ (97, ShortDay) ∷ (66, LongMonth) ∷ (112, HalfOfDay) ∷ (113, Quarter) ∷ (37, Percent) ∷ []

-- the directive of a letter
unfoldable pub directive_of : ℕ → Option Directive
directive_of letter = option_map (λ d. d.1) (find (λ d. d.0 == letter) directives)

-- the last so many digits of a number
unfoldable pub digits : ℕ → ℕ → List ℕ
digits zero number = []
digits (suc places) number = digits places (number / 10) ++ (48 + number % 10) ∷ []

-- a name by its number, counted from 0
abbrev pub named : List (List ℕ) → ℕ → List ℕ
named names number = unwrap_or (slice_get names number) []

-- the hour on a clock of twelve hours, whose noon and midnight are 12
abbrev pub hour_of_twelve : ℕ → ℕ
hour_of_twelve hour = (hour + 11) % 12 + 1

-- what a directive writes of an instant
abbrev pub directive_text : ℤ → Directive → List ℕ
directive_text instant Year = digits 4 (part_of instant part.Year)
directive_text instant Quarter = digits 1 (part_of instant part.Quarter)
directive_text instant Month = digits 2 (part_of instant part.Month + 1)
directive_text instant Date = digits 2 (part_of instant part.Date)
directive_text instant Hours = digits 2 (part_of instant part.Hours)
directive_text instant HoursOfTwelve = digits 2 (hour_of_twelve (part_of instant part.Hours))
directive_text instant Minutes = digits 2 (part_of instant part.Minutes)
directive_text instant Seconds = digits 2 (part_of instant part.Seconds)
directive_text instant Milliseconds = digits 3 (part_of instant part.Milliseconds)
directive_text instant ShortMonth = named month_names (part_of instant part.Month)
directive_text instant LongMonth = named long_month_names (part_of instant part.Month)
directive_text instant ShortDay = named day_names (part_of instant part.Day)
directive_text instant HalfOfDay = named half_names (part_of instant part.Hours / 12)
directive_text instant Percent = codes "%"

-- a piece of a pattern: a character that stands for itself, or a directive
pub data Piece : Type 0 where
  plain : ℕ → Piece
  directive : Directive → Piece

-- the pieces of a pattern by its characters, of which a percent sign and the next make a directive; none where a percent sign begins no
-- directive. The flag says that a percent sign stands before the characters.
unfoldable pub pieces : Bool → List ℕ → Option (List Piece)
pieces true [] = None
pieces true (letter ∷ rest) = option_and_then (λ d. option_map (λ ps. directive d ∷ ps) (pieces false rest)) (directive_of letter)
pieces false [] = Some []
pieces false (c ∷ rest) = if c == 37 then pieces true rest else option_map (λ ps. plain c ∷ ps) (pieces false rest)

abbrev pub piece_text : ℤ → Piece → List ℕ
piece_text instant (plain c) = encode_utf8 c
piece_text instant (directive d) = directive_text instant d

-- the label of the pieces of a pattern at an instant; a pattern without pieces is a fault before an instant that isn't there
abbrev pub label_of : Option (List Piece) → Option ℤ → Result (List ℕ) LabelError
label_of None instant = Err fault.Pattern
label_of (Some ps) None = Err fault.Instant
label_of (Some ps) (Some instant) = Ok (flat_map (piece_text instant) ps)

-- the label of the instant for which a number stands
abbrev pub label : ℤ → List ℕ → Result (List ℕ) LabelError
label number pattern = label_of (pieces false (chars pattern)) (instant_at number)

-- a text is a pattern: it has a percent sign, and each begins a directive
abbrev pub is_pattern : List ℕ → Bool
is_pattern text = list_any (λ c. c == 37) text && is_some (pieces false (chars text))

-- the fault that an error of `label` stands for; refused memory is free
abbrev pub cause : LabelError → Option LabelError
cause fault.Pattern = Some fault.Pattern
cause fault.Instant = Some fault.Instant
cause fault.Memory = None

-- ---- worked examples

the_first_quarter_of_1970 : label (pos 0) (codes "%Y Q%q") ≡ Ok (codes "1970 Q1")
unfolding pieces directive_of chars encode_utf8 digits day_of_instant date_of_count greatest_passing days_before_year days_of_months
the_first_quarter_of_1970 = refl

an_unknown_directive : label (pos 0) (codes "%Q") ≡ Err fault.Pattern
unfolding pieces directive_of chars
an_unknown_directive = refl

no_letter_after_a_percent_sign : is_pattern (codes "100%") ≡ false
unfolding pieces directive_of chars
no_letter_after_a_percent_sign = refl

noon : label (pos 43200000000000) (codes "%I %p") ≡ Ok (codes "12 PM")
unfolding pieces directive_of chars encode_utf8 digits time_of_instant
noon = refl
