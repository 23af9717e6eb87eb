-- What the text of a tree is at lists of items and members, and what stays of a character.
use Rattle.std.proofs.Common.{◌≡◌, ℕ, ◌+◌, ◌<◌, ◌≤◌, ◌/◌, ◌%◌, List, [], ◌∷◌, ◌++◌, refl, sym, ap, ◌∙◌, arith, inl, inr, append-nil}
use Rattle.std.specs.Prelude.{◌≢◌, map, codes, encode_utf8, encode_utf8_all}
use Rattle.std.specs.Char.{digit_char}
use Rattle.std.proofs.lemmas.Bool.{cases_lt}
use Rattle.std.proofs.lemmas.Bool.Decides.{nat_tests}
use Rattle.std.proofs.lemmas.List.{append_assoc}
use Rattle.std.proofs.lemmas.Str.{encodes-append}
use Rattle.std.proofs.lemmas.List.Concat.{flat_map-append}
use Rattle.json_exact.specs.declared.json.Json.{Json, Row_of-Json, end_of-Json, more_of-Json, items-the_row-Json}
use Rattle.json_exact.specs.declared.json.Json.{items_hidden-the_row-Json-0, Row_of-Member, end_of-Member, more_of-Member}
use Rattle.json_exact.specs.declared.json.Json.{items-the_row-Member, items_hidden-the_row-Member-1}
use Rattle.json_exact.specs.declared.json.Json.TheBlock.{hidden-the_row-Json-0, hidden-the_row-Member-1}
use Rattle.json_exact.specs.declared.json.Json.TheVariants as json
use Rattle.json_exact.specs.declared.json.Member.{Member}
use Rattle.json_exact.specs.Writing.{escape_of, escaped, text_of, item_texts, member_texts, member_text, with_name, with_commas}
use Rattle.json_exact.proofs.Letters.{encode_1, encode_2, encode_3, encode_4}

-- ---- the items of a list, and the members of an object

items-are : (n : _) (row : Row_of-Json n) → item_texts row ≡ map text_of (items-the_row-Json n row)
items-are n end_of-Json = refl
items-are n (more_of-Json item others) = ap (λ (texts : List (List ℕ)). text_of item ∷ texts) (items-are _ others)

pub text_of-List : (items : List Json) → text_of (json.List items) ≡ 91 ∷ with_commas (map text_of items) ++ 93 ∷ []
text_of-List items = ap (λ (texts : List (List ℕ)). 91 ∷ with_commas texts ++ 93 ∷ []) (items-are _ (hidden-the_row-Json-0 items)
    ∙ ap (map text_of) (items_hidden-the_row-Json-0 items))

members-are : (n : _) (row : Row_of-Member n) → member_texts row ≡ map member_text (items-the_row-Member n row)
members-are n end_of-Member = refl
members-are n (more_of-Member name value others) =
    ap (λ (texts : List (List ℕ)). with_name name (text_of value) ∷ texts) (members-are _ others)

pub text_of-Object : (members : List Member) → text_of (json.Object members) ≡ 123 ∷ with_commas (map member_text members) ++ 125 ∷ []
text_of-Object members = ap (λ (texts : List (List ℕ)). 123 ∷ with_commas texts ++ 125 ∷ [])
    (members-are _ (hidden-the_row-Member-1 members) ∙ ap (map member_text) (items_hidden-the_row-Member-1 members))

-- ---- the bytes of a character

-- a byte that is no control, no quote and no `\` stays
byte_kept : (b : ℕ) → 32 ≤ b → b ≢ 34 → b ≢ 92 → escape_of b ≡ b ∷ []
byte_kept b l q s = grind (arith, nat_tests)

high : (b : ℕ) → 128 ≤ b → escape_of b ≡ b ∷ []
high b l = byte_kept b (omega arith) (λ e. omega arith) (λ e. omega arith)

-- and so does a character, since the bytes of all others are above them
pub char_kept : (c : ℕ) → 32 ≤ c → c ≢ 34 → c ≢ 92 → escaped (encode_utf8 c) ≡ encode_utf8 c
char_kept c l q s = elim (cases_lt c 128) [
  | inl h ↦ rw (encode_1 c h, byte_kept c l q s) refl
  | inr h ↦ elim (cases_lt c 2048) [
    | inl k ↦ rw (encode_2 c h k, high (192 + c / 64) (omega arith), high (128 + c % 64) (omega arith)) refl
    | inr k ↦ elim (cases_lt c 65536) [
      | inl j ↦ rw (
        encode_3 c k j,
        high (224 + c / 4096) (omega arith),
        high (128 + (c / 64) % 64) (omega arith),
        high (128 + c % 64)
            (omega arith),
      ) refl
      | inr j ↦ rw (
        encode_4 c j,
        high (240 + c / 262144) (omega arith),
        high (128 + (c / 4096) % 64) (omega arith),
        high
            (128 + (c / 64) % 64) (omega arith),
        high (128 + c % 64) (omega arith),
      ) refl
    ]
  ]
]

control_byte : (c : ℕ) → c < 32 → c ≢ 8 → c ≢ 9 → c ≢ 10 → c ≢ 12 → c ≢ 13
    → escape_of c ++ [] ≡ codes "\\u00" ++ digit_char (c / 16) ∷ digit_char (c % 16) ∷ []
control_byte c l b t n f r = grind (arith, nat_tests)

-- a control without an escape of its own is written by its number
pub control_written : (c : ℕ) → c < 32 → c ≢ 8 → c ≢ 9 → c ≢ 10 → c ≢ 12 → c ≢ 13
    → escaped (encode_utf8 c) ≡ codes "\\u00" ++ digit_char (c / 16) ∷ digit_char (c % 16) ∷ []
control_written c l b t n f r = rw (encode_1 c (omega arith)) (control_byte c l b t n f r)

-- one more character of a text
pub escaped_more : (out cs : List ℕ) (c : ℕ)
    → (out ++ escaped (encode_utf8_all cs)) ++ escaped (encode_utf8 c) ≡ out ++ escaped (encode_utf8_all (cs ++ c ∷ []))
escaped_more out cs c = append_assoc out _ _
    ∙ ap (λ (t : List ℕ). out ++ t) (sym (flat_map-append escape_of (encode_utf8_all cs) (encode_utf8 c))
    ∙ ap escaped (sym (encodes-append cs (c ∷ []) ∙ ap (λ (t : List ℕ). encode_utf8_all cs ++ t) (append-nil (encode_utf8 c)))))
