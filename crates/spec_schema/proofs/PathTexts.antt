-- What stays of a character in a path.
use Rattle.std.proofs.Common.{◌≡◌, ℕ, ◌+◌, ◌≤◌, ◌/◌, ◌%◌, List, [], ◌∷◌, ◌++◌, refl, sym, ap, ◌∙◌, arith, inl, inr, append-nil}
use Rattle.std.specs.Prelude.{◌≢◌, flat_map, encode_utf8, encode_utf8_all}
use Rattle.std.proofs.lemmas.Bool.{cases_lt}
use Rattle.std.proofs.lemmas.Bool.Decides.{nat_tests}
use Rattle.std.proofs.lemmas.List.{append_assoc}
use Rattle.std.proofs.lemmas.Str.{encodes-append}
use Rattle.std.proofs.lemmas.List.Concat.{flat_map-append}
use Rattle.json_exact.proofs.Letters.{encode_1, encode_2, encode_3, encode_4}
use Rattle.spec_schema.specs.Faults.{path_byte}

-- a byte that is no mark of a path stays
byte_kept : (b : ℕ) → b ≢ 126 → b ≢ 47 → path_byte b ≡ b ∷ []
byte_kept b t s = grind (arith, nat_tests)

high : (b : ℕ) → 128 ≤ b → path_byte b ≡ b ∷ []
high b l = byte_kept b (λ e. omega arith) (λ e. omega arith)

-- and so does a character, since the bytes of all others are above them
pub char_kept : (c : ℕ) → c ≢ 126 → c ≢ 47 → flat_map path_byte (encode_utf8 c) ≡ encode_utf8 c
char_kept c t s = elim (cases_lt c 128) [
  | inl h ↦ rw (encode_1 c h, byte_kept c t s) refl
  | inr h ↦ elim (cases_lt c 2048) [
    | inl k ↦ rw (encode_2 c h k, high (192 + c / 64) (omega arith), high (128 + c % 64) (omega arith)) refl
    | inr k ↦ elim (cases_lt c 65536) [
      | inl j ↦ rw (
        encode_3 c k j,
        high (224 + c / 4096) (omega arith),
        high (128 + (c / 64) % 64) (omega arith),
        high (128 + c % 64)
            (omega arith),
      ) refl
      | inr j ↦ rw (
        encode_4 c j,
        high (240 + c / 262144) (omega arith),
        high (128 + (c / 4096) % 64) (omega arith),
        high
            (128 + (c / 64) % 64) (omega arith),
        high (128 + c % 64) (omega arith),
      ) refl
    ]
  ]
]

-- one more character of a name
pub word_more : (out cs : List ℕ) (c : ℕ) → (out ++ flat_map path_byte (encode_utf8_all cs)) ++ flat_map path_byte (encode_utf8 c)
    ≡ out ++ flat_map path_byte (encode_utf8_all (cs ++ c ∷ []))
word_more out cs c = append_assoc out _ _
    ∙ ap (λ (t : List ℕ). out ++ t) (sym (flat_map-append path_byte (encode_utf8_all cs) (encode_utf8 c))
    ∙ ap (flat_map path_byte) (sym (encodes-append cs (c ∷ [])
    ∙ ap (λ (t : List ℕ). encode_utf8_all cs ++ t) (append-nil (encode_utf8 c)))))
