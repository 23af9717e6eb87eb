-- What is written of a tree that was read spells that tree.
use Rattle.std.proofs.Common.{◌≡◌, ℕ, ◌+◌, ◌*◌, ◌^◌, ◌/◌, ◌%◌, ◌<◌, List, [], ◌∷◌, ◌++◌, false, pos, refl, sym, ap, subst, ◌∙◌, arith, inl}
use Rattle.std.proofs.Common.{inr, append-nil}
use Rattle.std.specs.Prelude.{IsTrue, map, codes, encode_utf8, encode_utf8_all}
use Rattle.std.specs.Char.{IsScalar, digit_char, is_ascii_hexdigit}
use Rattle.std.proofs.lemmas.Bool.{cases_lt, cases_eq}
use Rattle.std.proofs.lemmas.Bool.Decides.{nat_tests}
use Rattle.std.proofs.lemmas.List.Concat.{flat_map-append}
use Rattle.std.proofs.lemmas.Int.{ints}
use Rattle.fixed_num.specs.Number.{IsNumber}
use Rattle.fixed_num.specs.Decimal.{spelling}
use Rattle.fixed_num.specs.JsonNumber as numbers
use Rattle.fixed_num.proofs.RoundTripLemmas.{written_is_read}
use Rattle.json_exact.specs.declared.json.Json.{Json}
use Rattle.json_exact.specs.declared.json.Json.TheVariants as json
use Rattle.json_exact.specs.declared.json.Member.{Member}
use Rattle.json_exact.specs.Reading.{hex_value, IsUnit, unit, IsChar, itself, short, long, AreChars, no_char, more_chars, IsQuoted, Spells}
use Rattle.json_exact.specs.Reading.{SpellsPadded, SpellsItems, SpellsMember, SpellsMembers, null, yes, no, number, huge, text, list}
use Rattle.json_exact.specs.Reading.{object, padded, no_item, last_item, more_items, member, no_member, last_member, more_members, Reads}
use Rattle.json_exact.specs.Writing.{escape_of, escaped, quoted, text_of, member_text, with_commas}
use Rattle.json_exact.proofs.Letters.{encode_1}
use Rattle.json_exact.proofs.Escapes.{char_scalar}
use Rattle.json_exact.proofs.Written.{char_kept, control_written, text_of-List, text_of-Object}

-- ---- the characters of a text

digit_stands : (n : ℕ) → n < 16 → hex_value (digit_char n) ≡ n
digit_stands n l = grind (arith, nat_tests)

digit_is : (n : ℕ) → n < 16 → IsTrue (is_ascii_hexdigit (digit_char n))
digit_is n l = grind (arith, nat_tests)

-- a control is read from its number
control_stands : (c : ℕ) → c < 32 → IsUnit (48 ∷ 48 ∷ digit_char (c / 16) ∷ digit_char (c % 16) ∷ []) c
control_stands c l =
    let front : c / 16 < 16 = omega arith in
    let back : c % 16 < 16 = omega arith in
    let value : ((0 * 16 + 0) * 16 + hex_value (digit_char (c / 16))) * 16 + hex_value (digit_char (c % 16)) ≡ c =
    omega (arith, digit_stands (c / 16) front, digit_stands (c % 16) back) in
    subst (λ (n : ℕ). IsUnit (48 ∷ 48 ∷ digit_char (c / 16) ∷ digit_char (c % 16) ∷ []) n) value
    (unit 48 48 (digit_char (c / 16)) (digit_char (c % 16)) refl refl (digit_is (c / 16) front) (digit_is (c % 16) back))

-- a character with an escape of its own
short_stands : (letter c : ℕ) → c < 128 → IsChar (92 ∷ letter ∷ []) c → escape_of c ≡ 92 ∷ letter ∷ [] → IsChar (escaped (encode_utf8 c)) c
short_stands letter c l i e = subst (λ (w : List ℕ). IsChar w c) (sym (ap escaped (encode_1 c l) ∙ ap (λ (w : List ℕ). w ++ []) e)) i

short_at : (n letter c : ℕ) → c ≡ n → n < 128 → IsChar (92 ∷ letter ∷ []) n → escape_of n ≡ 92 ∷ letter ∷ []
    → IsChar (escaped (encode_utf8 c)) c
short_at n letter c same l i e = subst (λ (k : ℕ). IsChar (escaped (encode_utf8 k)) k) (sym same) (short_stands letter n l i e)

control_char : (c : ℕ) → IsScalar c → c < 32 → IsChar (escaped (encode_utf8 c)) c
control_char c s l =
    elim (cases_eq c 8) [
      | inl e ↦ short_at 8 98 c e (omega arith) (short 98 8 refl) refl
      | inr n8 ↦
          elim (cases_eq c 9) [
            | inl e ↦ short_at 9 116 c e (omega arith) (short 116 9 refl) refl
            | inr n9 ↦
                elim (cases_eq c 10) [
                  | inl e ↦ short_at 10 110 c e (omega arith) (short 110 10 refl) refl
                  | inr n10 ↦
                      elim (cases_eq c 12) [
                        | inl e ↦ short_at 12 102 c e (omega arith) (short 102 12 refl) refl
                        | inr n12 ↦
                            elim (cases_eq c 13) [
                              | inl e ↦ short_at 13 114 c e (omega arith) (short 114 13 refl) refl
                              | inr n13 ↦
                                  subst (λ (w : List ℕ). IsChar w c) (sym (control_written c l n8 n9 n10 n12 n13))
                                  (long (48 ∷ 48 ∷ digit_char (c / 16) ∷ digit_char (c % 16) ∷ []) c (control_stands c l) s)
                            ]
                      ]
                ]
          ]
    ]

char_stands : (c : ℕ) → IsScalar c → IsChar (escaped (encode_utf8 c)) c
char_stands c s =
    elim (cases_eq c 34) [
      | inl e ↦ short_at 34 34 c e (omega arith) (short 34 34 refl) refl
      | inr q ↦ elim (cases_eq c 92) [
        | inl e ↦ short_at 92 92 c e (omega arith) (short 92 92 refl) refl
        | inr b ↦ elim (cases_lt c 32) [
          | inr l ↦ subst (λ (w : List ℕ). IsChar w c) (sym (char_kept c l q b)) (itself c s l q b)
          | inl l ↦ control_char c s l
        ]
      ]
    ]

chars_stand : {inside cs : List ℕ} → AreChars inside cs → AreChars (escaped (encode_utf8_all cs)) cs
chars_stand no_char = no_char
chars_stand (more_chars front back c cs i r) =
    subst (λ (w : List ℕ). AreChars w (c ∷ cs)) (sym (flat_map-append escape_of (encode_utf8 c) (encode_utf8_all cs)))
    (more_chars (escaped (encode_utf8 c)) (escaped (encode_utf8_all cs)) c cs (char_stands c (char_scalar i)) (chars_stand r))

quoted_stands : {word t : List ℕ} → IsQuoted word t → IsQuoted (quoted t) t
quoted_stands q = record {
  inside = escaped (encode_utf8_all q.characters);
  characters = q.characters;
  quoted = ap quoted q.encoded;
  stands_for = chars_stand q.stands_for;
  encoded = q.encoded;
}

-- ---- trees

-- ten to the power 99
abbrev huge_parts : numbers.Parts
huge_parts = record { minus = false; whole = codes "1"; fraction = []; exponent = pos 99 }

huge_spelled : numbers.Spells (codes "1e99") huge_parts
huge_spelled = record {
  exponent_text = codes "e99";
  whole = record { some = λ e. absurd cc; digits = refl; leading_zero = λ e. absurd (omega arith) };
  fraction = refl;
  exponent = (
    inl refl,
    record {
      sign = [];
      minus = false;
      digits = codes "99";
      is_sign = refl;
      some = λ e. absurd cc;
      all_digits = refl;
      joined = refl;
      value = refl;
    },
  );
  joined = refl;
}

huge_value : pos (10 ^ 105) ≡ numbers.decimal_value huge_parts
unfolding numbers.decimal_value numbers.scaled
huge_value = refl

huge_past : IsNumber (pos (10 ^ 105)) → ⊥
huge_past n = absurd (omega (arith, ints, n))

huge_stands : Spells json.Huge (codes "1e99")
huge_stands = huge (pos (10 ^ 105)) (codes "1e99") (huge_parts, huge_spelled, huge_value) huge_past

name_alone : (name rest : List ℕ) → [] ++ name ++ [] ++ rest ≡ name ++ rest
name_alone name rest = ap (λ (t : List ℕ). t ++ rest) (append-nil name)

member_alone : (m : Member) → IsQuoted (quoted m.name) m.name → SpellsPadded m.value (text_of m.value) → SpellsMember m (member_text m)
member_alone m q p = subst (SpellsMember m) (name_alone (quoted m.name) (58 ∷ text_of m.value))
    (member m [] (quoted m.name) [] (text_of m.value) tt q tt p)

-- white space is none
without_spaces : {tree : Json} → Spells tree (text_of tree) → SpellsPadded tree (text_of tree)
without_spaces {tree = tree} s = subst (SpellsPadded tree) (append-nil (text_of tree)) (padded tree [] (text_of tree) [] tt s tt)

mutual
  value_stands : {tree : Json} {word : List ℕ} → Spells tree word → Spells tree (text_of tree)
  value_stands null = null
  value_stands yes = yes
  value_stands no = no
  value_stands (number m word r i) = number m (spelling m) (written_is_read m i) i
  value_stands (huge m word r past) = huge_stands
  value_stands (text t word q) = text t (quoted t) (quoted_stands q)
  value_stands (list items inside s) =
      subst (Spells (json.List items)) (sym (text_of-List items)) (list items (with_commas (map text_of items)) (items_stand s))
  value_stands (object members inside apart s) =
      subst (Spells (json.Object members)) (sym (text_of-Object members))
      (object members (with_commas (map member_text members)) apart (members_stand s))

  padded_stands : {tree : Json} {word : List ℕ} → SpellsPadded tree word → SpellsPadded tree (text_of tree)
  padded_stands (padded tree before word after b s a) = without_spaces (value_stands s)

  items_stand : {items : List Json} {inside : List ℕ} → SpellsItems items inside → SpellsItems items (with_commas (map text_of items))
  items_stand (no_item inside w) = no_item [] tt
  items_stand (last_item item inside p) =
      last_item item (text_of item ++ []) (subst (SpellsPadded item) (sym (append-nil (text_of item))) (padded_stands p))
  items_stand (more_items item next others front back p r) =
      more_items item next others (text_of item) (with_commas (map text_of (next ∷ others))) (padded_stands p) (items_stand r)

  member_stands : {m : Member} {word : List ℕ} → SpellsMember m word → SpellsMember m (member_text m)
  member_stands (member m before word after value b q a p) = member_alone m (quoted_stands q) (padded_stands p)

  members_stand : {members : List Member} {inside : List ℕ} → SpellsMembers members inside
      → SpellsMembers members (with_commas (map member_text members))
  members_stand (no_member inside w) = no_member [] tt
  members_stand (last_member m inside p) =
      last_member m (member_text m ++ []) (subst (SpellsMember m) (sym (append-nil (member_text m))) (member_stands p))
  members_stand (more_members m next others front back p r) =
      more_members m next others (member_text m) (with_commas (map member_text (next ∷ others))) (member_stands p) (members_stand r)

-- what was written is read
pub written_again : (bytes : List ℕ) (tree : Json) → Reads bytes tree → Reads (text_of tree) tree
written_again bytes tree r = (padded_stands r.0, r.1)
