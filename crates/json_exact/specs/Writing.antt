-- The text of a tree: JSON (RFC 8259) in UTF-8, without spaces.
use Rattle.std.specs.Prelude.{◌≡◌, ℕ, ◌/◌, ◌%◌, ◌==◌, nat_lt, negsuc, true, if◌then◌else◌, List, [], ◌∷◌, ◌++◌, codes, flat_map, refl}
use Rattle.std.specs.Char.{digit_char}
use Rattle.fixed_num.specs.Decimal.{spelling, size_spelling, fraction_spelling, fraction_digits}
use Rattle.std.specs.Fmt.{digits}
use Rattle.json_exact.specs.declared.json.Json.{Json, Null, Flag, Number, Huge, Text, List', Object', Row_of-Json, end_of-Json}
use Rattle.json_exact.specs.declared.json.Json.{more_of-Json, Row_of-Member, end_of-Member, more_of-Member}
use Rattle.json_exact.specs.declared.json.Json.TheVariants as json
use Rattle.json_exact.specs.declared.json.Member.{Member}

-- a byte of a text between quotes: `"`, `\` and the controls below a space as escapes, and any other as it is
abbrev pub escape_of : ℕ → List ℕ
escape_of byte =
    if byte == 34 then codes "\\\""
    else (if byte == 92 then codes "\\\\"
    else (if byte == 8 then codes "\\b"
    else (if byte == 9 then codes "\\t"
    else (if byte == 10 then codes "\\n"
    else (if byte == 12 then codes "\\f"
    else (if byte == 13 then codes "\\r"
    else (if nat_lt byte 32 then codes "\\u00" ++ digit_char (byte / 16) ∷ digit_char (byte % 16) ∷ []
    else byte ∷ [])))))))

-- the bytes of a text, one after another
abbrev pub escaped : List ℕ → List ℕ
escaped text = flat_map escape_of text

-- a text between quotes
abbrev pub quoted : List ℕ → List ℕ
quoted text = 34 ∷ escaped text ++ 34 ∷ []

-- some texts, with a comma between any two
abbrev pub with_commas : List (List ℕ) → List ℕ
with_commas [] = []
with_commas (text ∷ others) = text ++ flat_map (λ other. 44 ∷ other) others

-- a name, a colon and the text of a value
abbrev pub with_name : List ℕ → List ℕ → List ℕ
with_name name value = quoted name ++ 58 ∷ value

abbrev mutual
  -- the text of a tree; `1e99` stands for a number out of range, since it is one
  pub text_of : Json → List ℕ
  text_of Null = codes "null"
  text_of (Flag b) = if b then codes "true" else codes "false"
  text_of (Number m) = spelling m
  text_of Huge = codes "1e99"
  text_of (Text t) = quoted t
  text_of (List' shape items) = 91 ∷ with_commas (item_texts items) ++ 93 ∷ []
  text_of (Object' shape members) = 123 ∷ with_commas (member_texts members) ++ 125 ∷ []

  -- the text of each item
  pub item_texts : {m : _} → Row_of-Json m → List (List ℕ)
  item_texts end_of-Json = []
  item_texts (more_of-Json item others) = text_of item ∷ item_texts others

  -- the text of each member
  pub member_texts : {m : _} → Row_of-Member m → List (List ℕ)
  member_texts end_of-Member = []
  member_texts (more_of-Member name value others) = with_name name (text_of value) ∷ member_texts others

-- the text of one member
abbrev pub member_text : Member → List ℕ
member_text m = with_name m.name (text_of m.value)

a_quote : escape_of 34 ≡ codes "\\\""
a_quote = refl

a_control : escape_of 31 ≡ codes "\\u001f"
a_control = refl

no_escape : escape_of 127 ≡ 127 ∷ []
no_escape = refl

a_line_feed : quoted (codes "a\nb") ≡ codes "\"a\\nb\""
a_line_feed = refl

a_list_of_three : text_of (json.List (json.Null ∷ json.Huge ∷ json.Flag true ∷ [])) ≡ codes "[null,1e99,true]"
unfolding Rattle.json_exact.specs.declared.json.Json.TheBlock.hidden-the_row-Json-0 denote.Hole.Carrier.hidden
a_list_of_three = refl

an_empty_object : text_of (json.Object []) ≡ codes "{}"
unfolding Rattle.json_exact.specs.declared.json.Json.TheBlock.hidden-the_row-Member-1 denote.Hole.Carrier.hidden
an_empty_object = refl

an_object_of_two :
    text_of (json.Object (
    record { name = codes "a"; value = json.List [] } ∷ record { name = codes "\""; value = json.Text (codes "b") } ∷ []))
    ≡ codes "{\"a\":[],\"\\\"\":\"b\"}"
unfolding Rattle.json_exact.specs.declared.json.Json.TheBlock.hidden-the_row-Json-0
    Rattle.json_exact.specs.declared.json.Json.TheBlock.hidden-the_row-Member-1 denote.Hole.Carrier.hidden
an_object_of_two = refl

a_number : text_of (json.Number (negsuc 1499999)) ≡ codes "-1.5"
unfolding spelling size_spelling fraction_spelling fraction_digits digits
a_number = refl
