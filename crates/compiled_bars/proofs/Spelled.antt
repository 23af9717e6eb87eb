-- Trees that texts spell.
use Rattle.std.proofs.Common.{◌≡◌, ℕ, ◌+◌, ◌*◌, ◌/◌, ◌%◌, ◌<◌, ◌≤◌, Bool, true, false, ◌&&◌, List, [], ◌∷◌, ◌++◌, Some, ℤ}
use Rattle.std.proofs.Common.{refl, sym, ap, subst, ◌∙◌, arith, inl, inr}
use Rattle.std.specs.Prelude.{◌≢◌, IsTrue, not, nat_lt, AllPairs, bytes_eq, encode_utf8}
use Rattle.std.specs.List.{All, list_all}
use Rattle.std.specs.Str.{IsUtf8, IsAscii}
use Rattle.std.specs.Char.{IsScalar, digit_char, is_ascii_hexdigit}
use Rattle.std.proofs.lemmas.Bool.{cases_lt, cases_eq, false≢true}
use Rattle.std.proofs.lemmas.Bool.Decides.{nat_tests}
use Rattle.std.proofs.lemmas.List.{append_assoc}
use Rattle.std.proofs.lemmas.List.Elements.{All-nil, All-cons}
use Rattle.std.proofs.lemmas.List.Kept.{AllPairs-cons}
use Rattle.std.proofs.lemmas.Slice.Eq.{bytes_eq-Decides}
use Rattle.std.proofs.lemmas.Str.{IsUtf8-from_ascii}
use Rattle.std.proofs.lemmas.Str.Ascii.{IsAscii-nil, IsAscii-cons}
use lib.Utf8.{scalars, scalar}
use Rattle.fixed_num.specs.Number.{IsNumber}
use Rattle.fixed_num.specs.Decimal.{spelling}
use Rattle.fixed_num.proofs.RoundTripLemmas.{written_is_read}
use Rattle.json_exact.specs.declared.json.Json.{Json}
use Rattle.json_exact.specs.declared.json.Json.TheVariants as json
use Rattle.json_exact.specs.declared.json.Member.{Member}
use Rattle.json_exact.specs.Reading.{hex_value, IsUnit, unit, IsChar, itself, short, long, AreChars, no_char, more_chars, IsQuoted, Spells}
use Rattle.json_exact.specs.Reading.{SpellsPadded, SpellsItems, SpellsMember, SpellsMembers, number, text, list, IsWhite, depth, Reads}
use Rattle.json_exact.specs.Writing.{text_of}
use Rattle.json_exact.proofs.Rewritten.{written_again}
use Rattle.json_exact.specs.Reading.{object, padded, no_item, last_item, more_items, member, no_member, last_member, more_members}

-- ---- texts

left_of : (a b : Bool) → (a && b) ≡ true → a ≡ true
left_of true b h = refl
left_of false b h = h

right_of : (a b : Bool) → (a && b) ≡ true → b ≡ true
right_of true b h = h
right_of false b h = absurd (cc)

digit_stands : (n : ℕ) → n < 16 → hex_value (digit_char n) ≡ n
digit_stands n l = grind (arith, nat_tests)

digit_is : (n : ℕ) → n < 16 → IsTrue (is_ascii_hexdigit (digit_char n))
digit_is n l = grind (arith, nat_tests)

-- a control is read from its number
control_stands : (c : ℕ) → c < 32 → IsUnit (48 ∷ 48 ∷ digit_char (c / 16) ∷ digit_char (c % 16) ∷ []) c
control_stands c l =
    let front : c / 16 < 16 = omega arith in
    let back : c % 16 < 16 = omega arith in
    let value : ((0 * 16 + 0) * 16 + hex_value (digit_char (c / 16))) * 16 + hex_value (digit_char (c % 16)) ≡ c =
    omega (arith, digit_stands (c / 16) front, digit_stands (c % 16) back) in
    subst (λ (n : ℕ). IsUnit (48 ∷ 48 ∷ digit_char (c / 16) ∷ digit_char (c % 16) ∷ []) n) value
    (unit 48 48 (digit_char (c / 16)) (digit_char (c % 16)) refl refl (digit_is (c / 16) front) (digit_is (c % 16) back))

-- each character has a word
char_word : (c : ℕ) → IsScalar c → (word : List ℕ) × IsChar word c
char_word c s =
    elim (cases_eq c 34) [
      | inl e ↦ (92 ∷ 34 ∷ [], short 34 c (ap Some (sym e)))
      | inr q ↦ elim (cases_eq c 92) [
        | inl e ↦ (92 ∷ 92 ∷ [], short 92 c (ap Some (sym e)))
        | inr b ↦ elim (cases_lt c 32) [
          | inr l ↦ (encode_utf8 c, itself c s l q b)
          | inl l ↦ (
            92 ∷ 117 ∷ 48 ∷ 48 ∷ digit_char (c / 16) ∷ digit_char (c % 16) ∷ [],
            long (48 ∷ 48 ∷ digit_char (c / 16) ∷ digit_char (c % 16) ∷ []) c (control_stands c l) s,
          )
        ]
      ]
    ]

chars_word : (cs : List ℕ) → scalars cs ≡ true → (word : List ℕ) × AreChars word cs
chars_word [] e = ([], no_char)
chars_word (c ∷ cs) e =
    let first = char_word c (left_of (scalar c) (scalars cs) e) in
    let rest = chars_word cs (right_of (scalar c) (scalars cs) e) in
    (first.0 ++ rest.0, more_chars first.0 rest.0 c cs first.1 rest.1)

-- each text has a word between quotes
text_word : (t : List ℕ) → IsUtf8 t → (word : List ℕ) × IsQuoted word t
text_word t (cs, (fine, same)) =
    let w = chars_word cs fine in
    (34 ∷ w.0 ++ 34 ∷ [], record { inside = w.0; characters = cs; quoted = refl; stands_for = w.1; encoded = sym same })

low_byte : (b : ℕ) → nat_lt b 128 ≡ true → b < 128
low_byte b e = grind (arith, nat_tests)

plain_ascii : (t : List ℕ) → list_all (λ b. nat_lt b 128) t ≡ true → IsAscii t
plain_ascii [] e = IsAscii-nil
plain_ascii (b ∷ t) e =
    IsAscii-cons b t (low_byte b (left_of (nat_lt b 128) _ e)) (plain_ascii t (right_of (nat_lt b 128) _ e))

-- ASCII is a text
pub plain : (t : List ℕ) → list_all (λ b. nat_lt b 128) t ≡ true → IsUtf8 t
plain t e = IsUtf8-from_ascii t (plain_ascii t e)

-- ---- trees

-- some text spells the tree
abbrev pub IsSpelled : Json → Type 0
IsSpelled tree = (word : List ℕ) × Spells tree word

pub spelled_text : (t : List ℕ) → IsUtf8 t → IsSpelled (json.Text t)
spelled_text t u = let w = text_word t u in (w.0, text t w.0 w.1)

pub spelled_number : (m : ℤ) → IsNumber m → IsSpelled (json.Number m)
spelled_number m i = (spelling m, number m (spelling m) (written_is_read m i) i)

alone : (tree : Json) → IsSpelled tree → (word : List ℕ) × SpellsPadded tree word
alone tree s = ([] ++ s.0 ++ [], padded tree [] s.0 [] tt s.1 tt)

abbrev pub AreSpelled : List Json → Type 0
AreSpelled [] = Unit {0}
AreSpelled (t ∷ ts) = IsSpelled t × AreSpelled ts

items_word : (items : List Json) → AreSpelled items → (inside : List ℕ) × SpellsItems items inside
items_word [] s = ([], no_item [] tt)
items_word (item ∷ []) s = let w = alone item s.0 in (w.0, last_item item w.0 w.1)
items_word (item ∷ next ∷ others) s =
    let w = alone item s.0 in
    let rest = items_word (next ∷ others) s.1 in
    (w.0 ++ 44 ∷ rest.0, more_items item next others w.0 rest.0 w.1 rest.1)

pub spelled_list : (items : List Json) → AreSpelled items → IsSpelled (json.List items)
spelled_list items s = let w = items_word items s in (91 ∷ w.0 ++ 93 ∷ [], list items w.0 w.1)

abbrev pub AreSpelledMembers : List Member → Type 0
AreSpelledMembers [] = Unit {0}
AreSpelledMembers (m ∷ ms) = (IsUtf8 m.name) × (IsSpelled m.value) × AreSpelledMembers ms

member_word : (m : Member) → IsUtf8 m.name → IsSpelled m.value → (word : List ℕ) × SpellsMember m word
member_word m u s =
    let name = text_word m.name u in
    let value = alone m.value s in
    ([] ++ name.0 ++ [] ++ 58 ∷ value.0, member m [] name.0 [] value.0 tt name.1 tt value.1)

members_word : (members : List Member) → AreSpelledMembers members → (inside : List ℕ) × SpellsMembers members inside
members_word [] s = ([], no_member [] tt)
members_word (m ∷ []) s = let w = member_word m s.0 s.1 in (w.0, last_member m w.0 w.1)
members_word (m ∷ next ∷ others) s =
    let w = member_word m s.0 s.1 in
    let rest = members_word (next ∷ others) s.2 in
    (w.0 ++ 44 ∷ rest.0, more_members m next others w.0 rest.0 w.1 rest.1)

-- ---- names that differ

abbrev Differ : Member → Member → Type 0
Differ m n = m.name ≢ n.name

differs : (a b : List ℕ) → not (bytes_eq a b) ≡ true → a ≢ b
differs a b e same =
    let yes : bytes_eq a b ≡ true = (bytes_eq-Decides a b).1 same in
    absurd (false≢true (sym (ap not yes) ∙ e))

abbrev pub are_apart : List Member → Bool
are_apart [] = true
are_apart (m ∷ ms) = list_all (λ (n : Member). not (bytes_eq m.name n.name)) ms && are_apart ms

differ_all : (m : Member) (ms : List Member) → list_all (λ (n : Member). not (bytes_eq m.name n.name)) ms ≡ true → All (Differ m) ms
differ_all m [] e = All-nil (Differ m)
differ_all m (n ∷ ns) e =
    All-cons (Differ m) n ns (differs m.name n.name (left_of (not (bytes_eq m.name n.name)) _ e))
    (differ_all m ns (right_of (not (bytes_eq m.name n.name)) _ e))

apart : (ms : List Member) → are_apart ms ≡ true → AllPairs (λ m n. m.name ≢ n.name) ms
apart [] e = λ i j d less within. absurd (omega arith)
apart (m ∷ ms) e =
    let test : Bool = list_all (λ (n : Member). not (bytes_eq m.name n.name)) ms in
    AllPairs-cons Differ m ms (differ_all m ms (left_of test (are_apart ms) e)) (apart ms (right_of test (are_apart ms) e))

pub spelled_object : (members : List Member) → are_apart members ≡ true → AreSpelledMembers members → IsSpelled (json.Object members)
spelled_object members e s =
    let w = members_word members s in
    (123 ∷ w.0 ++ 125 ∷ [], object members w.0 (apart members e) w.1)

-- ---- a line feed at the end

white_more : (after : List ℕ) → IsWhite after → IsWhite (after ++ 10 ∷ [])
white_more [] w = (refl, tt)
white_more (b ∷ bs) w = (w.0, white_more bs w.1)

line_more : (before word after : List ℕ) → before ++ word ++ (after ++ 10 ∷ []) ≡ (before ++ word ++ after) ++ 10 ∷ []
line_more before word after = simp append_assoc

pub with_line_feed : {tree : Json} {bytes : List ℕ} → SpellsPadded tree bytes → SpellsPadded tree (bytes ++ 10 ∷ [])
with_line_feed (padded tree before word after b s a) =
    subst (SpellsPadded tree) (line_more before word after) (padded tree before word (after ++ 10 ∷ []) b s (white_more after a))

-- what is written of a tree that some text spells is read as that tree, also with a line feed behind it
pub is_read : (tree : Json) → IsSpelled tree → depth tree ≤ 128 → Reads (text_of tree ++ 10 ∷ []) tree
is_read tree s low =
    let word = alone tree s in
    (with_line_feed (written_again word.0 tree (word.1, low)).0, low)
