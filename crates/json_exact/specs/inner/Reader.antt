-- Reading from left to right, as a function of the bytes.
use Rattle.std.specs.Prelude.{ℕ, zero, suc, ◌+◌, ◌-◌, ◌*◌, List, [], ◌∷◌, ◌++◌, length, drop, codes, ℤ, true, false, ◌&&◌, ◌||◌, ◌==◌}
use Rattle.std.specs.Prelude.{nat_lt, nat_le, if◌then◌else◌, Result, Ok, Option, Some, None, map, encode_utf8}
use Rattle.std.specs.List.{list_any}
use Rattle.std.specs.Char.{is_ascii_hexdigit}
use Rattle.std.specs.Str.{bytes_eq}
use Rattle.fixed_num.specs.JsonNumber.{decimal_value}
use Rattle.fixed_num.specs.Ranges.{in_range}
use Rattle.fixed_num.specs.Steps.{◌>>=◌}
use Rattle.fixed_num.specs.Front.{Read, first, stop, parts_at}
use Rattle.json_exact.specs.declared.error.ReadStop.{ReadStop}
use Rattle.json_exact.specs.declared.error.ReadStop.TheVariants as errors
use Rattle.json_exact.specs.declared.json.Json.{Json}
use Rattle.json_exact.specs.declared.json.Json.TheVariants as json
use Rattle.json_exact.specs.declared.json.Member.{Member}
use Rattle.json_exact.specs.Reading.{is_white, short_escape, hex_value, of_pair}

-- which fault an error stands for
abbrev pub cause : ReadStop → Option ℕ
cause (errors.Fault place) = Some place
cause errors.Memory = None

-- the bytes after the white space at the front
unfoldable pub skip_white : List ℕ → List ℕ
skip_white [] = []
skip_white (b ∷ rest) = if is_white b then skip_white rest else b ∷ rest

abbrev pub padded_at : {A : Type 0} → (List ℕ → Read A) → List ℕ → Read A
padded_at element bytes = do
  x ← element (skip_white bytes)
  Ok (x.0, skip_white x.1)

-- the bytes after a word
unfoldable pub after_word : List ℕ → List ℕ → Result (List ℕ) ℕ
after_word [] bytes = Ok bytes
after_word (b ∷ word) bytes = if first bytes == b then after_word word (drop 1 bytes) else stop bytes

-- a word that is written so, which stands for a tree
abbrev pub word_at : List ℕ → Json → List ℕ → Read Json
word_at word tree bytes = after_word word bytes >>= λ rest. Ok (tree, rest)

-- ---- characters

-- a digit to the base sixteen, from low to high
unfoldable pub hex_at : ℕ → ℕ → List ℕ → Read ℕ
hex_at low high bytes =
    if is_ascii_hexdigit (first bytes) && nat_le low (hex_value (first bytes)) && nat_le (hex_value (first bytes)) high
    then Ok (hex_value (first bytes), drop 1 bytes) else stop bytes

-- two more digits after a number
unfoldable pub hex_pair_at : ℕ → List ℕ → Read ℕ
hex_pair_at n bytes = do
  c ← hex_at 0 15 bytes
  d ← hex_at 0 15 c.1
  Ok ((n * 16 + c.0) * 16 + d.0, d.1)

-- four digits that write the second half of a pair of surrogates
unfoldable pub low_at : List ℕ → Read ℕ
low_at bytes = do
  a ← hex_at 13 13 bytes
  b ← hex_at 12 15 a.1
  hex_pair_at (a.0 * 16 + b.0) b.1

-- what follows the first half of a pair of surrogates
unfoldable pub after_high_at : ℕ → List ℕ → Read ℕ
after_high_at high bytes = do
  rest ← after_word (92 ∷ 117 ∷ []) bytes
  low ← low_at rest
  Ok (of_pair high low.0, low.1)

-- four digits, and what follows them where they write the first half of a pair of surrogates
unfoldable pub long_at : List ℕ → Read ℕ
long_at bytes = do
  a ← hex_at 0 15 bytes
  b ← hex_at 0 (if a.0 == 13 then 11 else 15) a.1
  n ← hex_pair_at (a.0 * 16 + b.0) b.1
  if nat_le 0xD800 n.0 && nat_lt n.0 0xDC00 then after_high_at n.0 n.1 else Ok n

-- the character that an escape of two bytes stands for, from its second byte on
abbrev pub short_escape_at : Option ℕ → List ℕ → Read ℕ
short_escape_at None bytes = stop bytes
short_escape_at (Some c) bytes = Ok (c, drop 1 bytes)

-- the character of an escape, without its first byte
unfoldable pub escape_at : List ℕ → Read ℕ
escape_at bytes =
    if first bytes == 117 then long_at (drop 1 bytes)
    else short_escape_at (short_escape (first bytes)) bytes

-- one more byte of a character, from low to high
unfoldable pub tail_at : ℕ → ℕ → ℕ → List ℕ → Read ℕ
tail_at low high n bytes =
    if nat_le low (first bytes) && nat_le (first bytes) high
    then Ok (n * 64 + (first bytes - 128), drop 1 bytes) else stop bytes

-- the rest of a character of three bytes, by its first byte
unfoldable pub three_at : ℕ → List ℕ → Read ℕ
three_at b bytes = do
  x ← tail_at (if b == 224 then 160 else 128) (if b == 237 then 159 else 191) (b - 224) bytes
  tail_at 128 191 x.0 x.1

-- the rest of a character of four bytes, by its first byte
unfoldable pub four_at : ℕ → List ℕ → Read ℕ
four_at b bytes = do
  x ← tail_at (if b == 240 then 144 else 128) (if b == 244 then 143 else 191) (b - 240) bytes
  y ← tail_at 128 191 x.0 x.1
  tail_at 128 191 y.0 y.1

-- a character that stands for itself, by its first byte
unfoldable pub plain_at : ℕ → List ℕ → Read ℕ
plain_at b bytes =
    if nat_lt b 32 || b == 34 then stop bytes
    else (if nat_lt b 128 then Ok (b, drop 1 bytes)
    else (if nat_le 194 b && nat_le b 223 then tail_at 128 191 (b - 192) (drop 1 bytes)
    else (if nat_le 224 b && nat_le b 239 then three_at b (drop 1 bytes)
    else (if nat_le 240 b && nat_le b 244 then four_at b (drop 1 bytes)
    else stop bytes))))

unfoldable pub char_at : List ℕ → Read ℕ
char_at bytes = if first bytes == 92 then escape_at (drop 1 bytes) else plain_at (first bytes) bytes

-- the characters up to a quote after those that are done, no more than fuel
unfoldable pub chars_at : ℕ → List ℕ → List ℕ → Read (List ℕ)
chars_at zero done bytes = stop bytes
chars_at (suc fuel) done bytes =
    if first bytes == 34 then Ok (done, bytes)
    else (char_at bytes >>= λ x. chars_at fuel (done ++ encode_utf8 x.0) x.1)

-- a text between quotes that is none of the names
unfoldable pub quoted_at : List (List ℕ) → List ℕ → Read (List ℕ)
quoted_at names bytes =
    if first bytes == 34 then (chars_at (length (drop 1 bytes)) [] (drop 1 bytes) >>= λ x.
    if list_any (bytes_eq x.0) names then stop x.1 else Ok (x.0, drop 1 x.1))
    else stop bytes

-- ---- numbers

-- the tree of a number, None where that is out of range
abbrev pub tree_of : Option ℤ → Json
tree_of (Some m) = json.Number m
tree_of None = json.Huge

-- the tree of so many millionths
abbrev pub number_tree : ℤ → Json
number_tree m = tree_of (in_range m)

unfoldable pub number_at : List ℕ → Read Json
number_at bytes = parts_at bytes >>= λ x. Ok (number_tree (decimal_value x.0), x.1)

-- ---- lists and objects

-- elements up to the closing byte after those that are done, with a comma between any two, no more than fuel
unfoldable pub run_at : {A : Type 0} → ℕ → (List A → List ℕ → Read A) → ℕ → List A → List ℕ → Read (List A)
run_at close element zero done bytes = stop bytes
run_at close element (suc fuel) done bytes = do
  x ← element done bytes
  if first x.1 == 44 then run_at close element fuel (done ++ x.0 ∷ []) (drop 1 x.1)
      else (if first x.1 == close then Ok (done ++ x.0 ∷ [], drop 1 x.1) else stop x.1)

unfoldable pub sequence_at : {A : Type 0} → ℕ → (List A → List ℕ → Read A) → List ℕ → Read (List A)
sequence_at close element bytes =
    let rest = skip_white bytes in
    if first rest == close then Ok ([], drop 1 rest) else run_at close element (length bytes) [] rest

abbrev pub names_of : List Member → List (List ℕ)
names_of members = map (λ m. m.name) members

-- a member of an object that has these members
unfoldable pub member_at : (List ℕ → Read Json) → List Member → List ℕ → Read Member
member_at value done bytes = do
  name ← padded_at (quoted_at (names_of done)) bytes
  if first name.1 == 58 then (padded_at value (drop 1 name.1) >>= λ x. Ok (record { name = name.0; value = x.0 }, x.1)) else stop name.1

unfoldable pub list_at : (List ℕ → Read Json) → List ℕ → Read Json
list_at value bytes = do
  items ← sequence_at 93 (λ done. padded_at value) bytes
  Ok (json.List items.0, items.1)

unfoldable pub object_at : (List ℕ → Read Json) → List ℕ → Read Json
object_at value bytes = do
  members ← sequence_at 125 (member_at value) bytes
  Ok (json.Object members.0, members.1)

unfoldable pub nested_at : (List ℕ → Read Json) → List ℕ → Read Json
nested_at value bytes = if first bytes == 91 then list_at value (drop 1 bytes) else object_at value (drop 1 bytes)

-- a value that is neither a list nor an object
unfoldable pub flat_at : List ℕ → Read Json
flat_at bytes =
    let b = first bytes in
    if b == 34 then (quoted_at [] bytes >>= λ x. Ok (json.Text x.0, x.1))
    else (if b == 110 then word_at (codes "null") json.Null bytes
    else (if b == 116 then word_at (codes "true") (json.Flag true) bytes
    else (if b == 102 then word_at (codes "false") (json.Flag false) bytes
    else number_at bytes)))

-- a value without white space before it, where nested reads lists and objects
unfoldable pub value_from : (List ℕ → Read Json) → List ℕ → Read Json
value_from nested bytes = if first bytes == 91 || first bytes == 123 then nested bytes else flat_at bytes

-- the same, in which level lists and objects may stand in one another
unfoldable pub value_at : ℕ → List ℕ → Read Json
value_at zero bytes = value_from (λ rest. stop rest) bytes
value_at (suc level) bytes = value_from (nested_at (value_at level)) bytes

unfoldable pub text_at : List ℕ → Result Json ℕ
text_at bytes = do
  x ← padded_at (value_at 128) bytes
  if length x.1 == 0 then Ok x.0 else stop x.1
