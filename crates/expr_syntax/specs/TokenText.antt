-- The text of tokens, with blanks where it reads well and where two tokens would run together.
use Rattle.std.specs.Prelude.{◌≡◌, ℕ, List, [], ◌∷◌, ◌++◌, codes, pos, ◌≤ℤ◌, slice_index, Bool, true, false, ◌&&◌, ◌||◌, ◌==◌}
use Rattle.std.specs.Prelude.{if◌then◌else◌, flat_map, refl}
use Rattle.std.specs.List.{AllByRecursion}
use Rattle.fixed_num.specs.Number.{IsNumber}
use Rattle.fixed_num.specs.Decimal.{spelling}
use Rattle.expr_syntax.specs.declared.token.Token.{Token}
use Rattle.expr_syntax.specs.declared.token.Token.TheVariants.{Name, Number, Quoted, Mark}
use Rattle.expr_syntax.specs.declared.token.Mark.{Mark as AnyMark}
use Rattle.expr_syntax.specs.declared.token.Mark.TheVariants.{Like, NotLike, Less, More, Minus, Not, Comma, Point, Open, Close, OpenSquare}
use Rattle.expr_syntax.specs.declared.token.Mark.TheVariants.{CloseSquare}
use Rattle.expr_syntax.specs.Tokens.{IsName, is_name_byte, mark_text}

-- a byte of a text between two `'`: `\`, `'`, line feed, tab and carriage return as escapes, and any other as it is
abbrev pub escape_in_text : ℕ → List ℕ
escape_in_text byte =
    if byte == 92 then codes "\\\\"
    else (if byte == 39 then codes "\\'"
    else (if byte == 10 then codes "\\n"
    else (if byte == 9 then codes "\\t"
    else (if byte == 13 then codes "\\r"
    else byte ∷ []))))

-- a text between two `'`
abbrev pub quoted_text : List ℕ → List ℕ
quoted_text text = 39 ∷ flat_map escape_in_text text ++ 39 ∷ []

-- how a token is written
abbrev pub token_text : Token → List ℕ
token_text (Name word) = word
token_text (Number m) = spelling m
token_text (Quoted text) = quoted_text text
token_text (Mark m) = mark_text m

-- a token that a word can be: a name is one, a number is in range and not below zero
abbrev pub IsWritten : Token → Type 0
IsWritten (Name word) = IsName word
IsWritten (Number m) = IsNumber m × (pos 0 ≤ℤ m)
IsWritten (Quoted text) = Unit {0}
IsWritten (Mark m) = Unit {0}

abbrev pub AreWritten : List Token → Type 0
AreWritten tokens = AllByRecursion IsWritten tokens

-- an operand may end with the token
abbrev pub ends_operand : Token → Bool
ends_operand (Mark Close) = true
ends_operand (Mark CloseSquare) = true
ends_operand (Mark m) = false
ends_operand token = true

-- after an operand the mark stands between two of them
abbrev pub is_between : AnyMark → Bool
is_between Not = false
is_between Comma = false
is_between Point = false
is_between Open = false
is_between Close = false
is_between OpenSquare = false
is_between CloseSquare = false
is_between m = true

-- the token is a mark that stands between two operands, where it comes after one
abbrev pub is_operator : Token → Bool
is_operator (Mark m) = is_between m
is_operator token = false

abbrev pub is_comma : Token → Bool
is_comma (Mark Comma) = true
is_comma token = false

-- a `=` directly after the mark makes it longer
abbrev pub grows : AnyMark → Bool
grows Not = true
grows Less = true
grows More = true
grows Like = true
grows NotLike = true
grows m = false

-- this byte directly after the token would belong to it, or may not stand there
abbrev pub clings : Token → ℕ → Bool
clings (Name word) byte = is_name_byte byte
clings (Number m) byte = is_name_byte byte || (byte == 46)
clings (Quoted text) byte = false
clings (Mark m) byte = grows m && (byte == 61)

-- A blank stands round a mark between two operands, after a comma, and where two tokens would run together.
-- The flag says whether the first of the two comes after an operand.
abbrev pub is_apart : Bool → Token → Token → Bool
is_apart after first second =
    (after && is_operator first) || is_comma first || (ends_operand first && is_operator second)
    || clings first (slice_index (token_text second) 0)

-- the tokens after one that is written, which comes after an operand where the flag is set
abbrev pub text_after : Bool → Token → List Token → List ℕ
text_after after last [] = []
text_after after last (next ∷ others) =
    (if is_apart after last next then 32 ∷ [] else []) ++ token_text next ++ text_after (ends_operand last) next others

-- the text of tokens
abbrev pub text_of_tokens : List Token → List ℕ
text_of_tokens [] = []
text_of_tokens (first ∷ others) = token_text first ++ text_after false first others

an_operator_between_operands :
    text_of_tokens (Mark Open ∷ Name (codes "a") ∷ Mark Minus ∷ Name (codes "b") ∷ Mark Close ∷ Mark More ∷ Quoted (codes "c'") ∷ [])
    ≡ codes "(a - b) > 'c\\''"
an_operator_between_operands = refl

a_sign_before_an_operand :
    text_of_tokens (Name (codes "f") ∷ Mark Open ∷ Mark Minus ∷ Name (codes "b") ∷ Mark Comma ∷ Mark Not ∷ Name (codes "c") ∷ [])
    ≡ codes "f(-b, !c"
a_sign_before_an_operand = refl

tokens_that_would_run_together : text_of_tokens (Name (codes "a") ∷ Name (codes "b") ∷ Mark Not ∷ Mark Like ∷ []) ≡ codes "a b! =="
tokens_that_would_run_together = refl
