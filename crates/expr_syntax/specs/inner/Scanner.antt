-- The token at the front of the bytes, as a function of them. Only private contracts cite it.
use Rattle.std.specs.Prelude.{ℕ, ◌+◌, List, [], ◌∷◌, length, take, drop, slice_index, ℤ, Bool, true, false, ◌&&◌, ◌||◌, ◌==◌}
use Rattle.std.specs.Prelude.{if◌then◌else◌, Result, Ok, Err, Option, Some, None}
use Rattle.std.specs.List.{prefix_len}
use Rattle.std.specs.Char.{is_ascii_digit}
use Rattle.fixed_num.specs.JsonNumber.{decimal_value}
use Rattle.fixed_num.specs.Ranges.{◌>>=◌, in_range}
use Rattle.fixed_num.specs.Front.{first}
use Rattle.expr_syntax.specs.NumberText.{parts_of}
use Rattle.expr_syntax.specs.declared.errors.ExprError.{ExprError}
use Rattle.expr_syntax.specs.declared.errors.ExprError.TheVariants.{Shape, Memory}
use Rattle.expr_syntax.specs.declared.token.Token.{Token}
use Rattle.expr_syntax.specs.declared.token.Token.TheVariants.{Name, Number, Quoted, Mark}
use Rattle.expr_syntax.specs.declared.token.Mark.{Mark as AnyMark}
use Rattle.expr_syntax.specs.declared.token.Mark.TheVariants.{Or, And, Like, NotLike, Same, NotSame, Less, LessSame, More, MoreSame, Plus}
use Rattle.expr_syntax.specs.declared.token.Mark.TheVariants.{Minus, Times, Over, Percent, Not, Question, Colon, Comma, Point, Open, Close}
use Rattle.expr_syntax.specs.declared.token.Mark.TheVariants.{OpenSquare, CloseSquare}
use Rattle.expr_syntax.specs.Tokens.{is_name_start, is_name_byte, unescape, mark_text}

-- what is read from the front and the bytes after it, or that there is nothing to read
abbrev pub Read : Type 0 → Type 0
Read A = Result (A × List ℕ) (Unit {0})

-- which fault an error stands for
abbrev pub cause : ExprError → Option (Unit {0})
cause Shape = Some tt
cause Memory = None

-- ---- marks

-- the mark that begins with these bytes, the longest one
unfoldable pub mark_of : ℕ → ℕ → ℕ → Option AnyMark
mark_of a b c =
    if a == 124 then (if b == 124 then Some Or else None)
    else (if a == 38 then (if b == 38 then Some And else None)
    else (if a == 61 then (if b == 61 then (if c == 61 then Some Same else Some Like) else None)
    else (if a == 33 then (if b == 61 then (if c == 61 then Some NotSame else Some NotLike) else Some Not)
    else (if a == 60 then (if b == 61 then Some LessSame else Some Less)
    else (if a == 62 then (if b == 61 then Some MoreSame else Some More)
    else (if a == 43 then Some Plus
    else (if a == 45 then Some Minus
    else (if a == 42 then Some Times
    else (if a == 47 then Some Over
    else (if a == 37 then Some Percent
    else (if a == 63 then Some Question
    else (if a == 58 then Some Colon
    else (if a == 44 then Some Comma
    else (if a == 46 then Some Point
    else (if a == 40 then Some Open
    else (if a == 41 then Some Close
    else (if a == 91 then Some OpenSquare
    else (if a == 93 then Some CloseSquare
    else None))))))))))))))))))

abbrev pub mark_at : List ℕ → Option AnyMark
mark_at bytes = mark_of (slice_index bytes 0) (slice_index bytes 1) (slice_index bytes 2)

-- a mark at the front, and what follows it
abbrev pub after_mark : Option AnyMark → List ℕ → Read Token
after_mark None bytes = Err tt
after_mark (Some m) bytes = Ok (Mark m, drop (length (mark_text m)) bytes)

-- ---- numbers

-- the byte may belong to a number, behind an `e` or `E` where the flag is set: a letter, a digit, `_`, `$`, a point,
-- or a sign behind an `e`
abbrev pub belongs : Bool → ℕ → Bool
belongs behind byte = is_name_byte byte || (byte == 46) || (behind && ((byte == 43) || (byte == 45)))

abbrev pub is_exponent_mark : ℕ → Bool
is_exponent_mark byte = (byte == 101) || (byte == 69)

-- how many such bytes stand at the front
abbrev pub number_len : Bool → List ℕ → ℕ
number_len behind [] = 0
number_len behind (byte ∷ others) = if belongs behind byte then 1 + number_len (is_exponent_mark byte) others else 0

-- the number that a text is, if it is in range
abbrev pub number_in : List ℕ → Option ℤ
number_in text = parts_of text >>= λ parts. in_range (decimal_value parts)

-- a number before the rest
abbrev pub number_with : Option ℤ → List ℕ → Read Token
number_with None rest = Err tt
number_with (Some m) rest = Ok (Number m, rest)

unfoldable pub number_at : List ℕ → Read Token
number_at bytes = number_with (number_in (take (number_len false bytes) bytes)) (drop (number_len false bytes) bytes)

-- ---- texts

-- one more byte of a text
abbrev pub with_byte : ℕ → Read (List ℕ) → Read (List ℕ)
with_byte byte (Ok x) = Ok (byte ∷ x.0, x.1)
with_byte byte (Err e) = Err e

-- an escaped byte of a text
abbrev pub with_escape : Option ℕ → Read (List ℕ) → Read (List ℕ)
with_escape None read = Err tt
with_escape (Some byte) read = with_byte byte read

-- the text up to the quote, behind a `\` where the flag is set
unfoldable pub inside_at : ℕ → Bool → List ℕ → Read (List ℕ)
inside_at quote escaped [] = Err tt
inside_at quote true (byte ∷ others) = with_escape (unescape byte) (inside_at quote false others)
inside_at quote false (byte ∷ others) =
    if byte == quote then Ok ([], others)
    else (if byte == 92 then inside_at quote true others else with_byte byte (inside_at quote false others))

abbrev pub as_quoted : Read (List ℕ) → Read Token
as_quoted (Ok x) = Ok (Quoted x.0, x.1)
as_quoted (Err e) = Err e

-- ---- tokens

abbrev pub name_at : List ℕ → Read Token
name_at bytes = Ok (Name (take (prefix_len is_name_byte bytes) bytes), drop (prefix_len is_name_byte bytes) bytes)

abbrev pub is_quote : ℕ → Bool
is_quote byte = (byte == 39) || (byte == 34)

-- the token at the front, which is no blank
unfoldable pub token_at : List ℕ → Read Token
token_at bytes =
    if is_name_start (first bytes) then name_at bytes
    else (if is_ascii_digit (first bytes) then number_at bytes
    else (if is_quote (first bytes) then as_quoted (inside_at (first bytes) false (drop 1 bytes))
    else after_mark (mark_at bytes) bytes))
