-- Texts that stand in XML as they are.
use Rattle.std.proofs.Common.{◌≡◌, ℕ, ◌+◌, ◌/◌, ◌%◌, ◌<◌, ◌≤◌, true, false, List, [], ◌∷◌, ◌++◌, refl, sym, ap, ◌∙◌, arith, inl, inr}
use Rattle.std.specs.Prelude.{◌≢◌, encode_utf8_all}
use Rattle.std.specs.Char.{encode_utf8}
use Rattle.std.specs.List.{flat_map, list_all}
use Rattle.std.specs.Str.{IsUtf8, chars}
use Rattle.std.proofs.lemmas.Bool.{cases_lt, cond-true, cond-false, lt-ltb, le-ltb, and_parts, false≢true}
use Rattle.std.proofs.lemmas.Bool.Decides.{nat_tests}
use Rattle.std.proofs.lemmas.List.Folds.{list_all-append}
use Rattle.std.proofs.lemmas.Str.{encodes-chars}
use Rattle.svg_text.specs.SceneText.{xml_char, xml_text}
use Rattle.svg_text.specs.inner.Pieces.{is_plain}

-- ---- characters by their first bytes

low : (c : ℕ) → c < 128 → is_plain c ≡ true → xml_char c ≡ encode_utf8 c
low c l h = grind (arith, nat_tests)

high : (c : ℕ) → 160 ≤ c → c ≢ 65534 → c ≢ 65535 → xml_char c ≡ encode_utf8 c
high c l a b = grind (arith, nat_tests)

refused : (b n : ℕ) → is_plain n ≡ false → is_plain b ≡ true → b ≢ n
refused b n other h same = absurd (false≢true (sym other ∙ ap is_plain (sym same) ∙ h))

-- the first byte of a character is one of its bytes
first_plain : (c b : ℕ) (bs : List ℕ) → encode_utf8 c ≡ b ∷ bs → list_all is_plain (encode_utf8 c) ≡ true → is_plain b ≡ true
first_plain c b bs e h = (and_parts (is_plain b) (list_all is_plain bs) (sym (ap (list_all is_plain) e) ∙ h)).0

one_byte : (c : ℕ) → c < 128 → encode_utf8 c ≡ c ∷ []
unfolding encode_utf8
one_byte c h = cond-true _ _ _ (lt-ltb _ _ h)

two_bytes : (c : ℕ) → 128 ≤ c → c < 2048 → encode_utf8 c ≡ (192 + c / 64) ∷ (128 + c % 64) ∷ []
unfolding encode_utf8
two_bytes c l h = cond-false _ _ _ (le-ltb _ _ l) ∙ cond-true _ _ _ (lt-ltb _ _ h)

three_bytes : (c : ℕ) → 2048 ≤ c → c < 65536 → encode_utf8 c ≡ (224 + c / 4096) ∷ (128 + (c / 64) % 64) ∷ (128 + c % 64) ∷ []
unfolding encode_utf8
three_bytes c l h = cond-false _ _ _ (le-ltb c 128 (omega arith)) ∙ cond-false _ _ _ (le-ltb _ _ l) ∙ cond-true _ _ _ (lt-ltb _ _ h)

past_controls : (c : ℕ) → 128 ≤ c → 192 + c / 64 ≢ 194 → 160 ≤ c
past_controls c l n = elim (cases_lt c 160) [
  | inl k ↦ absurd (n (omega arith))
  | inr k ↦ k
]

plain_char : (c : ℕ) → list_all is_plain (encode_utf8 c) ≡ true → xml_char c ≡ encode_utf8 c
plain_char c h = elim (cases_lt c 128) [
  | inl l ↦ low c l (first_plain c _ _ (one_byte c l) h)
  | inr l ↦ elim (cases_lt c 2048) [
    | inl k ↦
        let lead = refused (192 + c / 64) 194 refl (first_plain c _ _ (two_bytes c l k) h) in
        high c (past_controls c l lead) (λ e. omega arith) (λ e. omega arith)
    | inr k ↦ elim (cases_lt c 65536) [
      | inl j ↦
          let lead = refused (224 + c / 4096) 239 refl (first_plain c _ _ (three_bytes c k j) h) in
          high c (omega arith) (λ e. lead (omega arith)) (λ e. lead (omega arith))
      | inr j ↦ high c (omega arith) (λ e. omega arith) (λ e. omega arith)
    ]
  ]
]

-- ---- texts

plain_chars : (cs : List ℕ) → list_all is_plain (encode_utf8_all cs) ≡ true → flat_map xml_char cs ≡ encode_utf8_all cs
plain_chars [] h = refl
plain_chars (c ∷ cs) h =
    let parts = and_parts _ _ (sym (list_all-append is_plain (encode_utf8 c) (encode_utf8_all cs)) ∙ h) in
    ap (λ (t : List ℕ). t ++ flat_map xml_char cs) (plain_char c parts.0) ∙ ap (λ (t : List ℕ). encode_utf8 c ++ t) (plain_chars cs parts.1)

pub plain_text : (text : List ℕ) → IsUtf8 text → list_all is_plain text ≡ true → xml_text text ≡ text
plain_text text utf8 h =
    let whole = encodes-chars text utf8 in
    plain_chars (chars text) (ap (list_all is_plain) whole ∙ h) ∙ whole
