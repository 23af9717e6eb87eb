-- Which bytes spell which tree: JSON (RFC 8259) in UTF-8, with repeated names refused and nesting of at most 128.
-- A number is rounded to millionths, and is `Huge` where that is out of range.
use Rattle.std.specs.Prelude.{◌≡◌, ◌≢◌, ℕ, suc, ◌+◌, ◌-◌, ◌*◌, ◌<◌, ◌≤◌, max, List, [], ◌∷◌, ◌++◌, length, take, codes, ℤ, Bool, true}
use Rattle.std.specs.Prelude.{false, IsTrue, ◌||◌, ◌==◌, nat_le, if◌then◌else◌, Option, Some, None, refl, AllPairs, encode_utf8}
use Rattle.std.specs.Prelude.{encode_utf8_all}
use Rattle.std.specs.List.{AllByRecursion}
use Rattle.std.specs.Char.{is_ascii_hexdigit, IsScalar}
use Rattle.std.proofs.Common.{lit≤, arith}
use Rattle.fixed_num.specs.Number.{IsNumber}
use Rattle.fixed_num.specs.JsonNumber as numbers
use Rattle.json_exact.specs.declared.json.Json.{Json, List', Object', Row_of-Json, end_of-Json, more_of-Json, Row_of-Member, end_of-Member}
use Rattle.json_exact.specs.declared.json.Json.{more_of-Member}
use Rattle.json_exact.specs.declared.json.Json.TheVariants as json
use Rattle.json_exact.specs.declared.json.Member.{Member}

-- space, tab, line feed, carriage return
abbrev pub is_white : ℕ → Bool
is_white byte = (byte == 32) || (byte == 9) || (byte == 10) || (byte == 13)

-- white space alone, or nothing
abbrev pub IsWhite : List ℕ → Type 0
IsWhite bytes = AllByRecursion (λ byte. IsTrue (is_white byte)) bytes

-- the character that an escape of two bytes stands for, by its second byte
abbrev pub short_escape : ℕ → Option ℕ
short_escape letter =
    if letter == 34 then Some 34
    else (if letter == 92 then Some 92
    else (if letter == 47 then Some 47
    else (if letter == 98 then Some 8
    else (if letter == 102 then Some 12
    else (if letter == 110 then Some 10
    else (if letter == 114 then Some 13
    else (if letter == 116 then Some 9
    else None)))))))

-- the number that a digit to the base sixteen stands for, in either case
abbrev pub hex_value : ℕ → ℕ
hex_value digit = if nat_le digit 57 then digit - 48 else (if nat_le digit 70 then digit - 55 else digit - 87)

a_capital_digit : hex_value 70 ≡ 15
a_capital_digit = refl

a_small_digit : hex_value 97 ≡ 10
a_small_digit = refl

a_new_line : short_escape 110 ≡ Some 10
a_new_line = refl

-- four digits to the base sixteen, and the number that they write
pub data IsUnit : List ℕ → ℕ → Type 0 where
  unit : (a b c d : ℕ)
      → IsTrue (is_ascii_hexdigit a) → IsTrue (is_ascii_hexdigit b) → IsTrue (is_ascii_hexdigit c) → IsTrue (is_ascii_hexdigit d)
      → IsUnit (a ∷ b ∷ c ∷ d ∷ []) (((hex_value a * 16 + hex_value b) * 16 + hex_value c) * 16 + hex_value d)

-- the first and the second half of a pair of surrogates
abbrev pub IsHigh : ℕ → Type 0
IsHigh n = (0xD800 ≤ n) × (n < 0xDC00)

abbrev pub IsLow : ℕ → Type 0
IsLow n = (0xDC00 ≤ n) × (n < 0xE000)

-- the character that a pair of surrogates stands for
abbrev pub of_pair : ℕ → ℕ → ℕ
of_pair high low = 0x10000 + (high - 0xD800) * 1024 + (low - 0xDC00)

the_first_pair : of_pair 0xD800 0xDC00 ≡ 0x10000
the_first_pair = refl

the_last_pair : of_pair 0xDBFF 0xDFFF ≡ 0x10FFFF
the_last_pair = refl

-- inside a text the word stands for the character: itself in UTF-8, unless it is a control, `"` or `\`; or an escape
pub data IsChar : List ℕ → ℕ → Type 0 where
  itself : (c : ℕ) → IsScalar c → 32 ≤ c → c ≢ 34 → c ≢ 92 → IsChar (encode_utf8 c) c
  short : (letter c : ℕ) → short_escape letter ≡ Some c → IsChar (92 ∷ letter ∷ []) c
  long : (word : List ℕ) (c : ℕ) → IsUnit word c → IsScalar c → IsChar (92 ∷ 117 ∷ word) c
  pair : (front back : List ℕ) (high low : ℕ) → IsUnit front high → IsHigh high → IsUnit back low → IsLow low
      → IsChar (92 ∷ 117 ∷ front ++ 92 ∷ 117 ∷ back) (of_pair high low)

an_escaped_line_feed : IsChar (codes "\\n") 10
an_escaped_line_feed = short 110 10 refl

a_character_by_its_number : IsChar (codes "\\u0041") 65
a_character_by_its_number = long (codes "0041") 65 (unit 48 48 52 49 refl refl refl refl) refl

a_quote_by_its_escape : IsChar (codes "\\\"") 34
a_quote_by_its_escape = short 34 34 refl

-- the word stands for the characters, one after another
pub data AreChars : List ℕ → List ℕ → Type 0 where
  no_char : AreChars [] []
  more_chars : (front back : List ℕ) (c : ℕ) (cs : List ℕ) → IsChar front c → AreChars back cs → AreChars (front ++ back) (c ∷ cs)

-- the word is a text between quotes, and the text is its characters in UTF-8
pub record IsQuoted (word text : List ℕ) : Type 0 where
  pub inside : List ℕ
  pub characters : List ℕ
  pub quoted : word ≡ 34 ∷ inside ++ 34 ∷ []
  pub stands_for : AreChars inside characters
  pub encoded : text ≡ encode_utf8_all characters

mutual
  -- the word spells the tree
  pub data Spells : Json → List ℕ → Type 0 where
    null : Spells json.Null (codes "null")
    yes : Spells (json.Flag true) (codes "true")
    no : Spells (json.Flag false) (codes "false")
    number : (m : ℤ) (word : List ℕ) → numbers.Reads word m → IsNumber m → Spells (json.Number m) word
    huge : (m : ℤ) (word : List ℕ) → numbers.Reads word m → (IsNumber m → ⊥) → Spells json.Huge word
    text : (t word : List ℕ) → IsQuoted word t → Spells (json.Text t) word
    list : (items : List Json) (inside : List ℕ) → SpellsItems items inside → Spells (json.List items) (91 ∷ inside ++ 93 ∷ [])
    object : (members : List Member) (inside : List ℕ) → AllPairs (λ m n. m.name ≢ n.name) members → SpellsMembers members inside
        → Spells (json.Object members) (123 ∷ inside ++ 125 ∷ [])

  -- the same with white space on both sides
  pub data SpellsPadded : Json → List ℕ → Type 0 where
    padded : (tree : Json) (before word after : List ℕ) → IsWhite before → Spells tree word → IsWhite after
        → SpellsPadded tree (before ++ word ++ after)

  -- what stands between the brackets of a list: the items with a comma between any two
  pub data SpellsItems : List Json → List ℕ → Type 0 where
    no_item : (inside : List ℕ) → IsWhite inside → SpellsItems [] inside
    last_item : (item : Json) (inside : List ℕ) → SpellsPadded item inside → SpellsItems (item ∷ []) inside
    more_items : (item next : Json) (others : List Json) (front back : List ℕ) → SpellsPadded item front → SpellsItems (next ∷ others) back
        → SpellsItems (item ∷ next ∷ others) (front ++ 44 ∷ back)

  -- a name, a colon and a value
  pub data SpellsMember : Member → List ℕ → Type 0 where
    member : (m : Member) (before word after value : List ℕ)
        → IsWhite before → IsQuoted word m.name → IsWhite after → SpellsPadded m.value value
        → SpellsMember m (before ++ word ++ after ++ 58 ∷ value)

  -- what stands between the braces of an object
  pub data SpellsMembers : List Member → List ℕ → Type 0 where
    no_member : (inside : List ℕ) → IsWhite inside → SpellsMembers [] inside
    last_member : (m : Member) (inside : List ℕ) → SpellsMember m inside → SpellsMembers (m ∷ []) inside
    more_members : (m next : Member) (others : List Member) (front back : List ℕ)
        → SpellsMember m front → SpellsMembers (next ∷ others) back
        → SpellsMembers (m ∷ next ∷ others) (front ++ 44 ∷ back)

-- how deeply lists and objects stand in one another
abbrev mutual
  pub depth : Json → ℕ
  depth (List' shape items) = suc (items_depth items)
  depth (Object' shape members) = suc (members_depth members)
  depth tree = 0

  pub items_depth : {m : _} → Row_of-Json m → ℕ
  items_depth end_of-Json = 0
  items_depth (more_of-Json item others) = max (depth item) (items_depth others)

  pub members_depth : {m : _} → Row_of-Member m → ℕ
  members_depth end_of-Member = 0
  members_depth (more_of-Member name value others) = max (depth value) (members_depth others)

no_nesting : depth json.Null ≡ 0
no_nesting = refl

-- the bytes are a JSON text, and the tree is what they say
abbrev pub Reads : List ℕ → Json → Type 0
Reads bytes tree = SpellsPadded tree bytes × (depth tree ≤ 128)

-- the bytes begin a JSON text
abbrev pub Begins : List ℕ → Type 0
Begins front = (more : List ℕ) × (tree : Json) × Reads (front ++ more) tree

-- so many of the bytes begin a JSON text, and no greater number of them does
pub record FaultsAt (bytes : List ℕ) (place : ℕ) : Type 0 where
  pub within : place ≤ length bytes
  pub begins : Begins (take place bytes)
  pub no_longer : (n : ℕ) → place < n → n ≤ length bytes → Begins (take n bytes) → ⊥

-- ---- worked examples

spaces_round_null : Reads (codes " null ") json.Null
spaces_round_null = (padded json.Null (codes " ") (codes "null") (codes " ") (refl, tt) null (refl, tt), lit≤ tt)

the_item : SpellsItems (json.Flag true ∷ []) (codes "true")
the_item = last_item (json.Flag true) (codes "true") (padded (json.Flag true) [] (codes "true") [] tt yes tt)

one_item : Reads (codes "[true]") (json.List (json.Flag true ∷ []))
unfolding Rattle.json_exact.specs.declared.json.Json.TheBlock.hidden-the_row-Json-0 denote.Hole.Carrier.hidden
one_item = (
  padded (json.List (json.Flag true ∷ [])) [] (codes "[true]") [] tt (list (json.Flag true ∷ []) (codes "true") the_item) tt,
  lit≤ tt,
)

the_end_too_early : FaultsAt (codes "nul") 3
the_end_too_early = record {
  within = lit≤ tt;
  begins = (codes "l", json.Null, (padded json.Null [] (codes "null") [] tt null tt, lit≤ tt));
  no_longer = λ n more within. absurd (omega (arith, more, within));
}
