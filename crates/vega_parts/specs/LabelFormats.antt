-- The formats of labels.
use Rattle.std.specs.Prelude.{◌≡◌, ℕ, ◌==◌, nat_le, Bool, true, false, ◌&&◌, ◌||◌, if◌then◌else◌, List, [], ◌∷◌, codes, refl}
use Rattle.std.specs.Option.{option_map_or}
use Rattle.std.specs.Str.{chars}
use Rattle.json_exact.specs.declared.json.Json.{Json, out-Json}
use Rattle.spec_schema.specs.declared.spec_error.SpecKind.TheVariants.{Wrong}
use Rattle.json_exact.specs.Inside.{text_in}
use Rattle.time_calc.specs.Labels.{is_pattern, pieces, directive_of}
use Rattle.vega_parts.specs.declared.part.Part.{Part}
use Rattle.vega_parts.specs.declared.part.Part.TheVariants as part
use Rattle.vega_parts.specs.Trails.{Trail, place_of}

-- a number format ends with `f`, `d` or `%`
abbrev pub is_number_end : List ℕ → Bool
is_number_end (b ∷ []) = b == 102 || b == 100 || b == 37
is_number_end other = false

-- before that may stand `.n`, with n one digit from 0 to 6
abbrev pub is_number_tail : List ℕ → Bool
is_number_tail (b ∷ n ∷ rest) = if b == 46 then nat_le 48 n && nat_le n 54 && is_number_end rest else is_number_end (b ∷ n ∷ rest)
is_number_tail other = is_number_end other

-- and before that a `,`
abbrev pub is_number_format : List ℕ → Bool
is_number_format [] = false
is_number_format (b ∷ rest) = if b == 44 then is_number_tail rest else is_number_tail (b ∷ rest)

-- a label format is a number format or a pattern of labels of instants
abbrev pub is_label_format : List ℕ → Bool
is_label_format bytes = is_number_format bytes || is_pattern bytes

-- any other text is wrong
abbrev pub label_format_parts : Trail → Json → List Part
label_format_parts trail tree =
    option_map_or (λ (text : List ℕ). if is_label_format text then [] else part.Fault (place_of trail) Wrong ∷ [])
    (text_in (out-Json tree)) []

-- ---- worked examples

two_decimals : is_label_format (codes ",.2f") ≡ true
two_decimals = refl

seven_decimals_are_none : is_label_format (codes ".7%") ≡ false
unfolding pieces directive_of chars
seven_decimals_are_none = refl

a_percent_sign_alone : is_number_format (codes "%") ≡ true
a_percent_sign_alone = refl

a_year : is_label_format (codes "Q%q %Y") ≡ true
unfolding pieces directive_of chars
a_year = refl

an_unknown_directive : is_label_format (codes "%Y %x") ≡ false
unfolding pieces directive_of chars
an_unknown_directive = refl

no_directive : is_label_format (codes "year") ≡ false
unfolding pieces directive_of chars
no_directive = refl

two_percent_signs : is_label_format (codes "%%") ≡ true
unfolding pieces directive_of chars
two_percent_signs = refl
