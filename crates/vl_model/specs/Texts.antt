-- Texts that have forms of their own: expressions, formats of labels, names of parameters, and addresses of files.
use Rattle.std.specs.Prelude.{◌≡◌, ℕ, ◌==◌, Bool, true, false, ◌&&◌, ◌||◌, not, if◌then◌else◌, Option, Some, None, List, [], ◌∷◌, codes, refl}
use Rattle.std.specs.List.{list_all}
use Rattle.std.specs.Option.{is_some, option_map_or}
use Rattle.std.specs.Str.{bytes_eq, chars}
use Rattle.spec_schema.specs.declared.spec_error.SpecKind.{SpecKind}
use Rattle.spec_schema.specs.declared.spec_error.SpecKind.TheVariants.{Unsupported, Wrong}
use Rattle.time_calc.specs.Labels.{is_pattern, pieces, directive_of}
use Rattle.expr_syntax.specs.declared.expr.Expr.{Expr}
use Rattle.expr_syntax.specs.Expressions.{has_domain_length}
use Rattle.expr_syntax.specs.Tokens.{is_name_start, is_name_byte}
use Rattle.expr_reading.specs.Readings.{expression_of}
use Rattle.guide_text.specs.Formats.{number_format_of}
use Rattle.vl_schema.specs.declared.codes.TheConstants.{EXPRESSION, FILTER, LABEL_FORMAT, PARAMETER_NAME, URL}

-- a text is an expression: it reads as one, and no length of a domain stands in it
abbrev pub is_expression : List ℕ → Bool
is_expression text = option_map_or (λ (e : Expr). not (has_domain_length e)) (expression_of text) false

-- a text is a format of labels: a number format, or a pattern of labels of instants
abbrev pub is_label_format : List ℕ → Bool
is_label_format text = is_some (number_format_of text) || is_pattern text

-- a text is a name: a letter, `_` or `$`, and then letters, digits, `_` and `$`
abbrev pub is_name : List ℕ → Bool
is_name [] = false
is_name (first ∷ others) = is_name_start first && list_all is_name_byte others

-- a text is a word that stands for something else in expressions
abbrev pub is_reserved : List ℕ → Bool
is_reserved text =
    bytes_eq text (codes "datum") || bytes_eq text (codes "true") || bytes_eq text (codes "false") || bytes_eq text (codes "null")

-- a text is a name that a parameter can have
abbrev pub is_parameter_name : List ℕ → Bool
is_parameter_name text = is_name text && not (is_reserved text)

-- a text begins with `://`
abbrev pub begins_far : List ℕ → Bool
begins_far (a ∷ b ∷ c ∷ rest) = a == 58 && b == 47 && c == 47
begins_far other = false

-- it stands somewhere in a text: that is an address of the network
abbrev pub is_far : List ℕ → Bool
is_far [] = false
is_far (byte ∷ bytes) = begins_far (byte ∷ bytes) || is_far bytes

-- a text is wrong unless it has its form
abbrev pub wrong_unless : Bool → Option SpecKind
wrong_unless is = if is then None else Some Wrong

-- an address is unsupported where it is one of the network
abbrev pub unsupported_if : Bool → Option SpecKind
unsupported_if is = if is then Some Unsupported else None

-- what is wrong with a text that isn't an expression, if anything, by its shape
abbrev pub plain_fault : ℕ → List ℕ → Option SpecKind
plain_fault shape text =
    if shape == LABEL_FORMAT then wrong_unless (is_label_format text)
    else (if shape == PARAMETER_NAME then wrong_unless (is_parameter_name text)
    else (if shape == URL then unsupported_if (is_far text)
    else None))

-- what is wrong with a text, if anything, by its shape; a filter that is a text is an expression
unfoldable pub text_fault : ℕ → List ℕ → Option SpecKind
text_fault shape text =
    if shape == EXPRESSION || shape == FILTER then wrong_unless (is_expression text) else plain_fault shape text

-- ---- worked examples

a_name : is_parameter_name (codes "$brush_2") ≡ true
a_name = refl

a_digit_begins_no_name : is_parameter_name (codes "2brush") ≡ false
a_digit_begins_no_name = refl

no_name_is_empty : is_parameter_name [] ≡ false
no_name_is_empty = refl

a_word_of_expressions : is_parameter_name (codes "datum") ≡ false
a_word_of_expressions = refl

a_longer_word : is_parameter_name (codes "datums") ≡ true
a_longer_word = refl

two_decimals : is_label_format (codes ",.2f") ≡ true
unfolding number_format_of
two_decimals = refl

a_year : is_label_format (codes "Q%q %Y") ≡ true
unfolding number_format_of pieces directive_of chars
a_year = refl

an_unknown_directive : is_label_format (codes "%Y %x") ≡ false
unfolding number_format_of pieces directive_of chars
an_unknown_directive = refl

seven_decimals : is_label_format (codes ".7f") ≡ false
unfolding number_format_of pieces directive_of chars
seven_decimals = refl

a_file_of_the_network : is_far (codes "https://a/b.csv") ≡ true
a_file_of_the_network = refl

a_file_of_the_folder : is_far (codes "data:/a//b.csv") ≡ false
a_file_of_the_folder = refl
