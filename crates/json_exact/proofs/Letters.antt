-- Characters: what is spelled is read, whatever may follow, and what is read is spelled so.
use Rattle.std.proofs.Common.{◌≡◌, ℕ, ◌+◌, ◌-◌, ◌*◌, ◌/◌, ◌%◌, ◌<◌, ◌≤◌, false, cond, eqb, leb, ltb, ◌&&◌, ◌||◌, List, [], ◌∷◌, ◌++◌}
use Rattle.std.proofs.Common.{length, drop, Option, Some, Ok, refl, sym, ap, ◌∙◌, append_assoc, arith, inl, inr, ◌⊎◌}
use Rattle.std.specs.Prelude.{◌≢◌, IsTrue}
use Rattle.std.specs.Char.{is_ascii_hexdigit, IsScalar, encode_utf8}
use Rattle.std.proofs.lemmas.Bool.{cases_Bool, cond-true, cond-false, and_from, eqb-true, ne_eqb, or_from, le-leb, cases_lt, lt-ltb, le-ltb}
use Rattle.std.proofs.lemmas.Bool.Decides.{nat_tests}
use lib.Utf8.{scalar_cases}
use Rattle.json_exact.specs.Reading.{short_escape, hex_value, IsUnit, unit, IsHigh, IsLow, of_pair, IsChar, itself, short, long, pair}
use Rattle.fixed_num.specs.Front.{Read, first}
use Rattle.json_exact.specs.inner.Reader.{after_word, hex_at, hex_pair_at, low_at, after_high_at, long_at, short_escape_at, escape_at}
use Rattle.json_exact.specs.inner.Reader.{tail_at, three_at, four_at, plain_at, char_at}
use Rattle.fixed_num.proofs.Steps.{done}

-- ---- escapes that are spelled are read

hex_again : (low high digit : ℕ) (rest : List ℕ) → IsTrue (is_ascii_hexdigit digit) → low ≤ hex_value digit → hex_value digit ≤ high
    → hex_at low high (digit ∷ rest) ≡ Ok (hex_value digit, rest)
unfolding hex_at
hex_again low high digit rest h l u =
    cond-true _ _ _ (and_from _ _ (and_from _ _ h (le-leb _ _ l)) (le-leb _ _ u))

pub hex_small : (digit : ℕ) → IsTrue (is_ascii_hexdigit digit) → hex_value digit < 16
hex_small digit h = grind (arith, nat_tests)

hex_pair_again : (n c d : ℕ) (rest : List ℕ) → IsTrue (is_ascii_hexdigit c) → IsTrue (is_ascii_hexdigit d)
    → hex_pair_at n (c ∷ d ∷ rest) ≡ Ok ((n * 16 + hex_value c) * 16 + hex_value d, rest)
unfolding hex_pair_at
hex_pair_again n c d rest h k =
    rw (
      hex_again 0 15 c (d ∷ rest) h (omega arith) (omega (arith, hex_small c h)),
      hex_again 0 15 d rest k (omega arith)
          (omega (arith, hex_small d k)),
    ) refl

low_again : (word rest : List ℕ) (n : ℕ) → IsUnit word n → IsLow n → low_at (word ++ rest) ≡ Ok (n, rest)
unfolding low_at
low_again _ rest _ (unit a b c d ha hb hc hd) is =
    let sa = hex_small a ha in
    let sb = hex_small b hb in
    let sc = hex_small c hc in
    let sd = hex_small d hd in
    let first_is : hex_value a ≡ 13 = omega (arith, is.0, is.1) in
    let second_is : 12 ≤ hex_value b = omega (arith, is.0, is.1) in
    rw (
      hex_again 13 13 a (b ∷ c ∷ d ∷ rest) ha (omega arith) (omega arith),
      hex_again 12 15 b (c ∷ d ∷ rest) hb second_is (omega arith),
      hex_pair_again (hex_value a * 16 + hex_value b) c d rest hc hd,
    ) refl

u_again : (rest : List ℕ) → after_word (92 ∷ 117 ∷ []) (92 ∷ 117 ∷ rest) ≡ Ok rest
unfolding after_word
u_again rest = refl

after_high_again : (high : ℕ) (word rest : List ℕ) (n : ℕ) → IsUnit word n → IsLow n
    → after_high_at high (92 ∷ 117 ∷ (word ++ rest)) ≡ Ok (of_pair high n, rest)
unfolding after_high_at
after_high_again high word rest n u is = rw (u_again (word ++ rest), low_again word rest n u is) refl

-- what stands after four digits that write the first half of a pair, or another number
abbrev then_low : ℕ × List ℕ → Read ℕ
then_low n = cond (leb 0xD800 n.0 && ltb n.0 0xDC00) (after_high_at n.0 n.1) (Ok n)

first_four : (word rest : List ℕ) (n : ℕ) → IsUnit word n → (n < 0xDC00) ⊎ (0xE000 ≤ n) → long_at (word ++ rest) ≡ then_low (n, rest)
unfolding long_at
first_four _ rest _ (unit a b c d ha hb hc hd) is =
    let sa = hex_small a ha in
    let sb = hex_small b hb in
    let sc = hex_small c hc in
    let sd = hex_small d hd in
    let second : hex_value b ≤ cond (eqb (hex_value a) 13) 11 15 = grind (arith, nat_tests) in
    rw (
      hex_again 0 15 a (b ∷ c ∷ d ∷ rest) ha (omega arith) (omega arith),
      hex_again 0 (cond (eqb (hex_value a) 13) 11 15) b (c ∷ d ∷ rest)
          hb (omega arith) second,
      hex_pair_again (hex_value a * 16 + hex_value b) c d rest hc hd,
    ) refl

long_again : (word rest : List ℕ) (n : ℕ) → IsUnit word n → (n < 0xD800) ⊎ (0xE000 ≤ n) → long_at (word ++ rest) ≡ Ok (n, rest)
long_again word rest n u is =
    let range : (n < 0xDC00) ⊎ (0xE000 ≤ n) = elim is [ inl l ↦ inl (omega arith) | inr h ↦ inr h ] in
    let test : (leb 0xD800 n && ltb n 0xDC00) ≡ false = grind (arith, nat_tests) in
    first_four word rest n u range ∙ cond-false _ _ _ test

pair_again : (front back rest : List ℕ) (high low : ℕ) → IsUnit front high → IsHigh high → IsUnit back low → IsLow low
    → long_at (front ++ (92 ∷ 117 ∷ (back ++ rest))) ≡ Ok (of_pair high low, rest)
pair_again front back rest high low u h v l =
    first_four front (92 ∷ 117 ∷ (back ++ rest)) high u (inl h.1) ∙ cond-true _ _ _ (and_from _ _ (le-leb _ _ h.0) (lt-ltb _ _ h.1))
    ∙ after_high_again high back rest low v l

-- ---- characters in UTF-8

tail_again : (low high n b : ℕ) (rest : List ℕ) → low ≤ b → b ≤ high → tail_at low high n (b ∷ rest) ≡ Ok (n * 64 + (b - 128), rest)
unfolding tail_at
tail_again low high n b rest l h = cond-true _ _ _ (and_from _ _ (le-leb _ _ l) (le-leb _ _ h))

three_again : (b x y : ℕ) (rest : List ℕ) → cond (eqb b 224) 160 128 ≤ x → x ≤ cond (eqb b 237) 159 191 → 128 ≤ y → y ≤ 191
    → three_at b (x ∷ y ∷ rest) ≡ Ok (((b - 224) * 64 + (x - 128)) * 64 + (y - 128), rest)
unfolding three_at
three_again b x y rest l h l2 h2 =
    rw (
      tail_again (cond (eqb b 224) 160 128) (cond (eqb b 237) 159 191) (b - 224) x (y ∷ rest) l h,
      tail_again 128 191
          ((b - 224) * 64 + (x - 128)) y rest l2 h2,
    ) refl

four_again : (b x y z : ℕ) (rest : List ℕ) → cond (eqb b 240) 144 128 ≤ x → x ≤ cond (eqb b 244) 143 191 → 128 ≤ y → y ≤ 191 → 128 ≤ z
    → z ≤ 191 → four_at b (x ∷ y ∷ z ∷ rest) ≡ Ok ((((b - 240) * 64 + (x - 128)) * 64 + (y - 128)) * 64 + (z - 128), rest)
unfolding four_at
four_again b x y z rest l h l2 h2 l3 h3 =
    rw (
      tail_again (cond (eqb b 240) 144 128) (cond (eqb b 244) 143 191) (b - 240) x (y ∷ z ∷ rest) l h,
      tail_again 128 191
          ((b - 240) * 64 + (x - 128)) y (z ∷ rest) l2 h2,
      tail_again 128 191 (((b - 240) * 64 + (x - 128)) * 64 + (y - 128)) z rest l3 h3,
    )
    refl

plain_1 : (b : ℕ) (rest : List ℕ) → 32 ≤ b → b ≢ 34 → b < 128 → plain_at b (b ∷ rest) ≡ Ok (b, rest)
unfolding plain_at
plain_1 b rest l q h = cond-false _ _ _ (or_from _ _ (le-ltb _ _ l) (ne_eqb _ _ q)) ∙ cond-true _ _ _ (lt-ltb _ _ h)

high_byte : (b : ℕ) → 128 ≤ b → (ltb b 32 || eqb b 34) ≡ false
high_byte b l = grind (arith, nat_tests)

plain_2 : (b : ℕ) (rest : List ℕ) (r : Read ℕ) → 194 ≤ b → b ≤ 223 → tail_at 128 191 (b - 192) rest ≡ r → plain_at b (b ∷ rest) ≡ r
unfolding plain_at
plain_2 b rest r l h e = cond-false _ _ _ (high_byte b (omega arith)) ∙ cond-false _ _ _ (le-ltb b 128 (omega arith))
    ∙ cond-true _ _ _ (and_from _ _ (le-leb _ _ l) (le-leb _ _ h)) ∙ e

plain_3 : (b : ℕ) (rest : List ℕ) (r : Read ℕ) → 224 ≤ b → b ≤ 239 → three_at b rest ≡ r → plain_at b (b ∷ rest) ≡ r
unfolding plain_at
plain_3 b rest r l h e =
    let two : (leb 194 b && leb b 223) ≡ false = grind (arith, nat_tests) in
    cond-false _ _ _ (high_byte b (omega arith)) ∙ cond-false _ _ _ (le-ltb b 128 (omega arith)) ∙ cond-false _ _ _ two
    ∙ cond-true _ _ _ (and_from _ _ (le-leb _ _ l) (le-leb _ _ h)) ∙ e

plain_4 : (b : ℕ) (rest : List ℕ) (r : Read ℕ) → 240 ≤ b → b ≤ 244 → four_at b rest ≡ r → plain_at b (b ∷ rest) ≡ r
unfolding plain_at
plain_4 b rest r l h e =
    let two : (leb 194 b && leb b 223) ≡ false = grind (arith, nat_tests) in
    let three : (leb 224 b && leb b 239) ≡ false = grind (arith, nat_tests) in
    cond-false _ _ _ (high_byte b (omega arith)) ∙ cond-false _ _ _ (le-ltb b 128 (omega arith)) ∙ cond-false _ _ _ two
    ∙ cond-false _ _ _ three ∙ cond-true _ _ _ (and_from _ _ (le-leb _ _ l) (le-leb _ _ h)) ∙ e

-- the bytes of a character, by how many there are
pub encode_1 : (c : ℕ) → c < 128 → encode_utf8 c ≡ c ∷ []
unfolding encode_utf8
encode_1 c h = cond-true _ _ _ (lt-ltb _ _ h)

pub encode_2 : (c : ℕ) → 128 ≤ c → c < 2048 → encode_utf8 c ≡ (192 + c / 64) ∷ (128 + c % 64) ∷ []
unfolding encode_utf8
encode_2 c l h = cond-false _ _ _ (le-ltb _ _ l) ∙ cond-true _ _ _ (lt-ltb _ _ h)

pub encode_3 : (c : ℕ) → 2048 ≤ c → c < 65536 → encode_utf8 c ≡ (224 + c / 4096) ∷ (128 + (c / 64) % 64) ∷ (128 + c % 64) ∷ []
unfolding encode_utf8
encode_3 c l h = cond-false _ _ _ (le-ltb c 128 (omega arith)) ∙ cond-false _ _ _ (le-ltb _ _ l) ∙ cond-true _ _ _ (lt-ltb _ _ h)

pub encode_4 : (c : ℕ) → 65536 ≤ c
    → encode_utf8 c ≡ (240 + c / 262144) ∷ (128 + (c / 4096) % 64) ∷ (128 + (c / 64) % 64) ∷ (128 + c % 64) ∷ []
unfolding encode_utf8
encode_4 c l = cond-false _ _ _ (le-ltb c 128 (omega arith)) ∙ cond-false _ _ _ (le-ltb c 2048 (omega arith))
    ∙ cond-false _ _ _ (le-ltb _ _ l)

abbrev PlainAgain : ℕ → List ℕ → Type 0
PlainAgain c rest = (plain_at (first (encode_utf8 c ++ rest)) (encode_utf8 c ++ rest) ≡ Ok (c, rest)) × (32 ≤ first (encode_utf8 c ++ rest))
    × (first (encode_utf8 c ++ rest) ≢ 34) × (first (encode_utf8 c ++ rest) ≢ 92)

plain_again_1 : (c : ℕ) (rest : List ℕ) → 32 ≤ c → c ≢ 34 → c ≢ 92 → c < 128 → PlainAgain c rest
plain_again_1 c rest l q s h = rw (encode_1 c h) (plain_1 c rest l q h, l, q, s)

same_code : (c d : ℕ) (rest : List ℕ) → c ≡ d → done {A = ℕ × List ℕ} (c, rest) ≡ done {A = ℕ × List ℕ} (d, rest)
same_code c d rest e = ap (λ (n : ℕ). done {A = ℕ × List ℕ} (n, rest)) e

plain_again_2 : (c : ℕ) (rest : List ℕ) → 128 ≤ c → c < 2048 → PlainAgain c rest
plain_again_2 c rest l h =
    let b : ℕ = 192 + c / 64 in
    let value : (b - 192) * 64 + ((128 + c % 64) - 128) ≡ c = omega arith in
    rw (encode_2 c l h) (
      plain_2 (192 + c / 64) ((128 + c % 64) ∷ rest) (Ok (c, rest)) (omega arith) (omega arith)
          (tail_again 128 191 (192 + c / 64 - 192) (128 + c % 64) rest (omega arith) (omega arith)
          ∙ same_code _ c rest value),
      omega arith,
      λ e. omega arith,
      λ e. omega arith,
    )

plain_again_3 : (c : ℕ) (rest : List ℕ) → 2048 ≤ c → c < 65536 → (c < 0xD800) ⊎ (0xE000 ≤ c) → PlainAgain c rest
plain_again_3 c rest l h s =
    let b : ℕ = 224 + c / 4096 in
    let x : ℕ = 128 + (c / 64) % 64 in
    let y : ℕ = 128 + c % 64 in
    let value : ((b - 224) * 64 + (x - 128)) * 64 + (y - 128) ≡ c = omega arith in
    let low : cond (eqb b 224) 160 128 ≤ x = elim (cases_Bool (eqb b 224)) [
      | inl e ↦ rw (cond-true {A = ℕ} (eqb b 224) 160 128 e) (omega (arith, eqb-true b 224 e))
      | inr e ↦ rw (cond-false {A = ℕ} (eqb b 224) 160 128 e) (omega arith)
    ] in
    let high : x ≤ cond (eqb b 237) 159 191 = elim (cases_Bool (eqb b 237)) [
      | inl e ↦ rw (cond-true {A = ℕ} (eqb b 237) 159 191 e) (omega (arith, eqb-true b 237 e))
      | inr e ↦ rw (cond-false {A = ℕ} (eqb b 237) 159 191 e) (omega arith)
    ] in
    rw (encode_3 c l h) (
      plain_3 b (x ∷ y ∷ rest) (Ok (c, rest)) (omega arith) (omega arith)
          (three_again b x y rest low high (omega arith) (omega arith) ∙ same_code _ c rest value),
      omega arith,
      λ e. omega arith,
      λ e. omega arith,
    )

plain_again_4 : (c : ℕ) (rest : List ℕ) → 65536 ≤ c → c < 1114112 → PlainAgain c rest
plain_again_4 c rest l h =
    let b : ℕ = 240 + c / 262144 in
    let x : ℕ = 128 + (c / 4096) % 64 in
    let y : ℕ = 128 + (c / 64) % 64 in
    let z : ℕ = 128 + c % 64 in
    let value : (((b - 240) * 64 + (x - 128)) * 64 + (y - 128)) * 64 + (z - 128) ≡ c = omega arith in
    let low : cond (eqb b 240) 144 128 ≤ x = elim (cases_Bool (eqb b 240)) [
      | inl e ↦ rw (cond-true {A = ℕ} (eqb b 240) 144 128 e) (omega (arith, eqb-true b 240 e))
      | inr e ↦ rw (cond-false {A = ℕ} (eqb b 240) 144 128 e) (omega arith)
    ] in
    let high : x ≤ cond (eqb b 244) 143 191 = elim (cases_Bool (eqb b 244)) [
      | inl e ↦ rw (cond-true {A = ℕ} (eqb b 244) 143 191 e) (omega (arith, eqb-true b 244 e))
      | inr e ↦ rw (cond-false {A = ℕ} (eqb b 244) 143 191 e) (omega arith)
    ] in
    rw (encode_4 c l) (
      plain_4 b (x ∷ y ∷ z ∷ rest) (Ok (c, rest)) (omega arith) (omega arith)
          (four_again b x y z rest low high (omega arith) (omega arith) (omega arith) (omega arith)
          ∙ same_code _ c rest value),
      omega arith,
      λ e. omega arith,
      λ e. omega arith,
    )

plain_again : (c : ℕ) (rest : List ℕ) → IsScalar c → 32 ≤ c → c ≢ 34 → c ≢ 92 → PlainAgain c rest
plain_again c rest s l q e =
    let range = scalar_cases c s in
    elim (cases_lt c 128) [
      | inl h ↦ plain_again_1 c rest l q e h
      | inr l1 ↦ elim (cases_lt c 2048) [
        | inl h ↦ plain_again_2 c rest l1 h
        | inr l2 ↦ elim (cases_lt c 65536) [
          | inl h ↦ plain_again_3 c rest l2 h (elim range [ inl r ↦ inl r | inr r ↦ inr r.0 ])
          | inr l3 ↦ plain_again_4 c rest l3 (elim range [ inl r ↦ absurd (omega arith) | inr r ↦ r.1 ])
        ]
      ]
    ]

unit-range : (c : ℕ) → IsScalar c → (c < 0xD800) ⊎ (0xE000 ≤ c)
unit-range c s = elim (scalar_cases c s) [ inl r ↦ inl r | inr r ↦ inr r.0 ]

no_117 : (c : ℕ) → short_escape 117 ≡ Some c → ⊥
no_117 c e = absurd cc

no_short : (letter c : ℕ) → short_escape letter ≡ Some c → letter ≢ 117
no_short letter c e same = no_117 c (ap short_escape (sym same) ∙ e)

-- a word of a character is read, and does not begin with a quote
pub record CharAgain (word rest : List ℕ) (c : ℕ) : Type 0 where
  pub read : char_at (word ++ rest) ≡ Ok (c, rest)
  pub no_quote : first (word ++ rest) ≢ 34

char_plain : (bytes rest : List ℕ) (c : ℕ) → first bytes ≢ 92 → plain_at (first bytes) bytes ≡ Ok (c, rest) → char_at bytes ≡ Ok (c, rest)
unfolding char_at
char_plain bytes rest c e h = cond-false (eqb (first bytes) 92) (escape_at (drop 1 bytes)) (plain_at (first bytes) bytes) (ne_eqb _ _ e) ∙ h

char_escape : (bytes rest : List ℕ) (c : ℕ) → escape_at bytes ≡ Ok (c, rest) → char_at (92 ∷ bytes) ≡ Ok (c, rest)
unfolding char_at
char_escape bytes rest c h = h

escape_long : (bytes rest : List ℕ) (c : ℕ) → long_at bytes ≡ Ok (c, rest) → escape_at (117 ∷ bytes) ≡ Ok (c, rest)
unfolding escape_at
escape_long bytes rest c h = h

escape_short : (letter c : ℕ) (rest : List ℕ) → short_escape letter ≡ Some c → escape_at (letter ∷ rest) ≡ Ok (c, rest)
unfolding escape_at
escape_short letter c rest e =
    let other : eqb letter 117 ≡ false = ne_eqb letter 117 (no_short letter c e) in
    cond-false (eqb letter 117) (long_at rest) (short_escape_at (short_escape letter) (letter ∷ rest)) other
    ∙ ap (λ (o : Option ℕ). short_escape_at o (letter ∷ rest)) e

slash : (bytes : List ℕ) → first (92 ∷ bytes) ≢ 34
slash bytes same = absurd cc

char_itself : (c : ℕ) (rest : List ℕ) → PlainAgain c rest → CharAgain (encode_utf8 c) rest c
char_itself c rest k = record { read = char_plain (encode_utf8 c ++ rest) rest c k.3 k.0; no_quote = k.2 }

char_short : (letter c : ℕ) (rest : List ℕ) → short_escape letter ≡ Some c → CharAgain (92 ∷ letter ∷ []) rest c
char_short letter c rest e = record {
  read = char_escape (letter ∷ rest) rest c (escape_short letter c rest e);
  no_quote = slash (letter ∷ rest);
}

char_long : (word rest : List ℕ) (c : ℕ) → long_at (word ++ rest) ≡ Ok (c, rest) → CharAgain (92 ∷ 117 ∷ word) rest c
char_long word rest c e = record {
  read = char_escape (117 ∷ (word ++ rest)) rest c (escape_long (word ++ rest) rest c e);
  no_quote = slash (117 ∷ (word ++ rest));
}

char_pair : (front back rest : List ℕ) (high low : ℕ) → IsUnit front high → IsHigh high → IsUnit back low → IsLow low
    → CharAgain (92 ∷ 117 ∷ front ++ 92 ∷ 117 ∷ back) rest (of_pair high low)
char_pair front back rest high low u h v l =
    char_long (front ++ 92 ∷ 117 ∷ back) rest (of_pair high low) (ap long_at (append_assoc front (92 ∷ 117 ∷ back) rest)
    ∙ pair_again front back rest high low u h v l)

pub char_again : {word : List ℕ} {c : ℕ} → IsChar word c → (rest : List ℕ) → CharAgain word rest c
char_again (itself c s l q e) rest = char_itself c rest (plain_again c rest s l q e)
char_again (short letter c e) rest = char_short letter c rest e
char_again (long word c u s) rest = char_long word rest c (long_again word rest c u (unit-range c s))
char_again (pair front back high low u h v l) rest = char_pair front back rest high low u h v l

no_char_left : (c : ℕ) → char_at [] ≡ done {A = ℕ × List ℕ} (c, []) → ⊥
unfolding char_at plain_at
no_char_left c e = absurd cc

pub char_some : (word : List ℕ) (c : ℕ) → IsChar word c → 0 < length word
char_some [] c i = absurd (no_char_left c (char_again i []).read)
char_some (b ∷ word) c i = omega arith
