-- Which bytes have which tokens: names, numbers, texts between quotes and marks, with blanks between them.
use Rattle.std.specs.Prelude.{◌≡◌, ◌≢◌, ◌⊎◌, ℕ, ◌≤◌, List, [], ◌∷◌, ◌++◌, length, slice_index, codes, ℤ, Bool, false, IsTrue, ◌||◌, ◌==◌}
use Rattle.std.specs.Prelude.{if◌then◌else◌, Option, Some, None, refl}
use Rattle.std.specs.List.{AllByRecursion}
use Rattle.std.specs.Char.{is_ascii_digit, is_ascii_alphabetic}
use Rattle.fixed_num.specs.Number.{IsNumber}
use Rattle.fixed_num.specs.JsonNumber.{Reads}
use Rattle.expr_syntax.specs.declared.token.Token.{Token}
use Rattle.expr_syntax.specs.declared.token.Token.TheVariants.{Name, Number, Quoted, Mark}
use Rattle.expr_syntax.specs.declared.token.Mark.{Mark as AnyMark}
use Rattle.expr_syntax.specs.declared.token.Mark.TheVariants.{Or, And, Like, NotLike, Same, NotSame, Less, LessSame, More, MoreSame, Plus}
use Rattle.expr_syntax.specs.declared.token.Mark.TheVariants.{Minus, Times, Over, Percent, Not, Question, Colon, Comma, Point, Open, Close}
use Rattle.expr_syntax.specs.declared.token.Mark.TheVariants.{OpenSquare, CloseSquare}

-- space, tab, line feed, carriage return
abbrev pub is_blank : ℕ → Bool
is_blank byte = (byte == 32) || (byte == 9) || (byte == 10) || (byte == 13)

-- an ASCII letter, `_` or `$`
abbrev pub is_name_start : ℕ → Bool
is_name_start byte = is_ascii_alphabetic byte || (byte == 95) || (byte == 36)

-- an ASCII letter, a digit, `_` or `$`
abbrev pub is_name_byte : ℕ → Bool
is_name_byte byte = is_name_start byte || is_ascii_digit byte

-- a letter, `_` or `$`, and then letters, digits, `_` and `$`
abbrev pub IsName : List ℕ → Type 0
IsName [] = ⊥
IsName (byte ∷ others) = IsTrue (is_name_start byte) × AllByRecursion (λ other. IsTrue (is_name_byte other)) others

-- how a mark is written
abbrev pub mark_text : AnyMark → List ℕ
mark_text Or = codes "||"
mark_text And = codes "&&"
mark_text Like = codes "=="
mark_text NotLike = codes "!="
mark_text Same = codes "==="
mark_text NotSame = codes "!=="
mark_text Less = codes "<"
mark_text LessSame = codes "<="
mark_text More = codes ">"
mark_text MoreSame = codes ">="
mark_text Plus = codes "+"
mark_text Minus = codes "-"
mark_text Times = codes "*"
mark_text Over = codes "/"
mark_text Percent = codes "%"
mark_text Not = codes "!"
mark_text Question = codes "?"
mark_text Colon = codes ":"
mark_text Comma = codes ","
mark_text Point = codes "."
mark_text Open = codes "("
mark_text Close = codes ")"
mark_text OpenSquare = codes "["
mark_text CloseSquare = codes "]"

-- the byte that `\` and a letter stand for: `\\ \' \" \n \t \r`
abbrev pub unescape : ℕ → Option ℕ
unescape letter =
    if letter == 92 then Some 92
    else (if letter == 39 then Some 39
    else (if letter == 34 then Some 34
    else (if letter == 110 then Some 10
    else (if letter == 116 then Some 9
    else (if letter == 114 then Some 13
    else None)))))

-- what stands between two such quotes, and the text that it means: every byte but the quote and `\` means itself
pub data Means (quote : ℕ) : List ℕ → List ℕ → Type 0 where
  nothing : Means quote [] []
  itself : (byte : ℕ) (inside text : List ℕ) → byte ≢ quote → byte ≢ 92 → Means quote inside text
      → Means quote (byte ∷ inside) (byte ∷ text)
  escape : (letter byte : ℕ) (inside text : List ℕ) → unescape letter ≡ Some byte → Means quote inside text
      → Means quote (92 ∷ letter ∷ inside) (byte ∷ text)

-- the word is the token: a name, a JSON number in range without a sign, a text between two `'` or two `"`, or a mark
pub data IsToken : List ℕ → Token → Type 0 where
  name : (word : List ℕ) → IsName word → IsToken word (Name word)
  number : (word : List ℕ) (m : ℤ) → Reads word m → IsNumber m → slice_index word 0 ≢ 45 → IsToken word (Number m)
  quoted : (quote : ℕ) (inside text : List ℕ) → (quote ≡ 39) ⊎ (quote ≡ 34) → Means quote inside text
      → IsToken (quote ∷ inside ++ quote ∷ []) (Quoted text)
  mark : (m : AnyMark) → IsToken (mark_text m) (Mark m)

-- no byte that passes the test comes first
abbrev pub BeginsWithout : (ℕ → Bool) → List ℕ → Type 0
BeginsWithout test [] = Unit {0}
BeginsWithout test (byte ∷ others) = test byte ≡ false

-- no mark at the front of the bytes is longer than this one, which stands there
abbrev pub IsLongest : AnyMark → List ℕ → Type 0
IsLongest m bytes = (other : AnyMark) (rest : List ℕ) → bytes ≡ mark_text other ++ rest → length (mark_text other) ≤ length (mark_text m)

-- what may follow a token directly: a name ends where its bytes end, a number is followed by no byte of a name and no point,
-- and a mark is the longest that stands there
abbrev pub MayFollow : Token → List ℕ → Type 0
MayFollow (Name word) rest = BeginsWithout is_name_byte rest
MayFollow (Number m) rest = BeginsWithout (λ byte. is_name_byte byte || (byte == 46)) rest
MayFollow (Quoted text) rest = Unit {0}
MayFollow (Mark m) rest = IsLongest m (mark_text m ++ rest)

-- the bytes have these tokens: none; or a blank, and what follows it has them; or a word that is the first of them,
-- followed by what may follow it and has the others
pub data HasTokens : List ℕ → List Token → Type 0 where
  none : HasTokens [] []
  blank : (byte : ℕ) (rest : List ℕ) (tokens : List Token) → IsTrue (is_blank byte) → HasTokens rest tokens → HasTokens (byte ∷ rest) tokens
  token : (word rest : List ℕ) (first : Token) (others : List Token) → IsToken word first → MayFollow first rest → HasTokens rest others
      → HasTokens (word ++ rest) (first ∷ others)

a_dollar_and_a_digit : IsName (codes "$1")
a_dollar_and_a_digit = (refl, (refl, tt))

a_line_feed : unescape 110 ≡ Some 10
a_line_feed = refl

no_other_escape : unescape 98 ≡ None
no_other_escape = refl
