-- Texts between quotes, as they are written.
use Rattle.std.proofs.Common.{◌≡◌, ◌≢◌, ℕ, suc, ◌<◌, List, [], ◌∷◌, ◌++◌, length, get_or, Some, refl, sym, ap, subst, ◌∙◌, arith, inl, inr}
use Rattle.std.proofs.Common.{append-nil}
use Rattle.std.specs.Prelude.{encode_utf8, encode_utf8_all, flat_map}
use Rattle.std.proofs.lemmas.Bool.{cases_eq}
use Rattle.std.proofs.lemmas.Bool.Decides.{nat_tests}
use Rattle.std.proofs.lemmas.List.{append_assoc}
use Rattle.std.proofs.lemmas.List.Concat.{flat_map-append}
use Rattle.std.proofs.lemmas.Str.{inside_one, encodes-append}
use Rattle.expr_syntax.specs.Tokens.{unescape, Means, nothing, itself, escape}
use Rattle.expr_syntax.specs.TokenText.{escape_in_text}

-- a byte that is written as it is
record IsPlain (b : ℕ) : Type 0 where
  no_backslash : b ≢ 92
  no_quote : b ≢ 39
  no_line_feed : b ≢ 10
  no_tab : b ≢ 9
  no_return : b ≢ 13

byte_kept : (b : ℕ) → b ≢ 92 → b ≢ 39 → b ≢ 10 → b ≢ 9 → b ≢ 13 → escape_in_text b ≡ b ∷ []
byte_kept b s q n t r = grind (arith, nat_tests)

bytes_kept : (bs : List ℕ) → ((k : ℕ) → k < length bs → IsPlain (get_or bs k 0)) → flat_map escape_in_text bs ≡ bs
bytes_kept [] all = refl
bytes_kept (b ∷ bs) all =
    let p = all 0 (omega arith) in
    ap (λ (w : List ℕ). w ++ flat_map escape_in_text bs) (byte_kept b p.no_backslash p.no_quote p.no_line_feed p.no_tab p.no_return)
    ∙ ap (λ (w : List ℕ). b ∷ w) (bytes_kept bs (λ k l. all (suc k) (omega arith)))

-- an ASCII byte of a character is the character
byte_of : (c k n : ℕ) → k < length (encode_utf8 c) → n < 128 → c ≢ n → get_or (encode_utf8 c) k 0 ≢ n
byte_of c k n l low ne e = ne (inside_one c [] (encode_utf8 c) k (sym (append-nil (encode_utf8 c))) l (omega arith) ∙ e)

pub char_kept : (c : ℕ) → c ≢ 92 → c ≢ 39 → c ≢ 10 → c ≢ 9 → c ≢ 13 → flat_map escape_in_text (encode_utf8 c) ≡ encode_utf8 c
char_kept c s q n t r = bytes_kept (encode_utf8 c) (λ k l. record {
  no_backslash = byte_of c k 92 l (omega arith) s;
  no_quote = byte_of c k 39 l (omega arith) q;
  no_line_feed = byte_of c k 10 l (omega arith) n;
  no_tab = byte_of c k 9 l (omega arith) t;
  no_return = byte_of c k 13 l (omega arith) r;
})

-- one more character
pub escaped_more : (out cs : List ℕ) (c : ℕ)
    → (out ++ flat_map escape_in_text (encode_utf8_all cs)) ++ flat_map escape_in_text (encode_utf8 c)
    ≡ out ++ flat_map escape_in_text (encode_utf8_all (cs ++ c ∷ []))
escaped_more out cs c =
    append_assoc out _ _
    ∙ ap (λ (t : List ℕ). out ++ t)
    (sym (flat_map-append escape_in_text (encode_utf8_all cs) (encode_utf8 c))
    ∙ ap (flat_map escape_in_text)
    (sym (encodes-append cs (c ∷ []) ∙ ap (λ (t : List ℕ). encode_utf8_all cs ++ t) (append-nil (encode_utf8 c)))))

-- ---- what is written means the text

means_escape : (b letter : ℕ) (text inside : List ℕ) → escape_in_text b ≡ 92 ∷ letter ∷ [] → unescape letter ≡ Some b → Means 39 inside text
    → Means 39 (escape_in_text b ++ inside) (b ∷ text)
means_escape b letter text inside e f m =
    subst (λ (w : List ℕ). Means 39 (w ++ inside) (b ∷ text)) (sym e) (escape letter b inside text f m)

means_at : (n letter b : ℕ) (text inside : List ℕ) → b ≡ n → escape_in_text n ≡ 92 ∷ letter ∷ [] → unescape letter ≡ Some n
    → Means 39 inside text → Means 39 (escape_in_text b ++ inside) (b ∷ text)
means_at n letter b text inside same e f m =
    subst (λ (k : ℕ). Means 39 (escape_in_text k ++ inside) (k ∷ text)) (sym same) (means_escape n letter text inside e f m)

means_byte : (b : ℕ) (text inside : List ℕ) → Means 39 inside text → Means 39 (escape_in_text b ++ inside) (b ∷ text)
means_byte b text inside m = elim (cases_eq b 92) [
  | inl e ↦ means_at 92 92 b text inside e refl refl m
  | inr s ↦ elim (cases_eq b 39) [
    | inl e ↦ means_at 39 39 b text inside e refl refl m
    | inr q ↦ elim (cases_eq b 10) [
      | inl e ↦ means_at 10 110 b text inside e refl refl m
      | inr n ↦ elim (cases_eq b 9) [
        | inl e ↦ means_at 9 116 b text inside e refl refl m
        | inr t ↦ elim (cases_eq b 13) [
          | inl e ↦ means_at 13 114 b text inside e refl refl m
          | inr r ↦ subst (λ (w : List ℕ). Means 39 (w ++ inside) (b ∷ text)) (sym (byte_kept b s q n t r)) (itself b inside text q s m)
        ]
      ]
    ]
  ]
]

pub text_means : (text : List ℕ) → Means 39 (flat_map escape_in_text text) text
text_means [] = nothing
text_means (b ∷ text) = means_byte b text (flat_map escape_in_text text) (text_means text)
