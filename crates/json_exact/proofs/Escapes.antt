-- Characters that are read are spelled so.
use Rattle.std.proofs.Common.{◌≡◌, ℕ, zero, suc, ◌+◌, ◌-◌, ◌*◌, ◌/◌, ◌%◌, ◌<◌, ◌≤◌, Bool, true, false, cond, eqb, leb, ltb, ◌&&◌, ◌||◌}
use Rattle.std.proofs.Common.{List, [], ◌∷◌, ◌++◌, length, drop, Option, Some, None, Ok, refl, sym, ap, subst, ◌∙◌, append_assoc, arith}
use Rattle.std.proofs.Common.{inl, inr, ◌⊎◌}
use Rattle.std.specs.Prelude.{IsTrue}
use Rattle.std.specs.Char.{is_ascii_hexdigit, IsScalar, encode_utf8}
use Rattle.std.proofs.lemmas.Bool.{cases_Bool, cond-true, cond-false, and_parts, and_from, eqb-true, eqb-false, or_parts, cases_lt}
use Rattle.std.proofs.lemmas.Bool.{false≢true, lt-ltb, le-ltb, le-leb, leb-true, ltb-true, ltb-false}
use Rattle.std.proofs.lemmas.Bool.Decides.{nat_tests}
use Rattle.json_exact.specs.Reading.{short_escape, hex_value, IsUnit, unit, IsHigh, IsLow, of_pair, IsChar, itself, short, long, pair}
use Rattle.fixed_num.specs.Steps.{◌>>=◌}
use Rattle.fixed_num.specs.Front.{Read, first, stop}
use Rattle.json_exact.specs.inner.Reader.{after_word, hex_at, hex_pair_at, low_at, after_high_at, long_at, short_escape_at, escape_at}
use Rattle.json_exact.specs.inner.Reader.{tail_at, three_at, four_at, plain_at, char_at}
use Rattle.fixed_num.proofs.Steps.{bind_ok, chosen, guarded, unless, ok_is, begins}
use Rattle.json_exact.proofs.Letters.{encode_1, encode_2, encode_3, encode_4, hex_small}

-- ---- escapes

pub record HexIs (low high : ℕ) (bytes : List ℕ) (x : ℕ × List ℕ) : Type 0 where
  pub digit : ℕ
  pub parts : bytes ≡ digit ∷ x.1
  pub hex : IsTrue (is_ascii_hexdigit digit)
  pub value : x.0 ≡ hex_value digit
  pub low_is : low ≤ x.0
  pub high_is : x.0 ≤ high

hex_some : (b : ℕ) → is_ascii_hexdigit b ≡ true → 0 < b
hex_some b e = grind (arith, nat_tests)

pub hex_sound : (low high : ℕ) (bytes : List ℕ) (x : ℕ × List ℕ) → hex_at low high bytes ≡ Ok x → HexIs low high bytes x
unfolding hex_at
hex_sound low high bytes x e =
    let b = first bytes in
    let g = guarded (is_ascii_hexdigit b && leb low (hex_value b) && leb (hex_value b) high) (length bytes)
    (Ok (hex_value b, drop 1 bytes)) x e in
    let p = and_parts (is_ascii_hexdigit b && leb low (hex_value b)) (leb (hex_value b) high) g.0 in
    let q = and_parts (is_ascii_hexdigit b) (leb low (hex_value b)) p.0 in
    subst (λ (y : ℕ × List ℕ). HexIs low high bytes y) (ok_is (hex_value b, drop 1 bytes) x g.1)
    (record {
      digit = b;
      parts = begins bytes b (hex_some b q.0) refl;
      hex = q.0;
      value = refl;
      low_is = leb-true _ _ q.1;
      high_is = leb-true _ _ p.1;
    })

pair_sum : (n a b c d : ℕ) → a ≡ c → b ≡ d → (n * 16 + a) * 16 + b ≡ (n * 16 + c) * 16 + d
pair_sum n a b c d e f = cc

pub record PairIs (n : ℕ) (bytes : List ℕ) (x : ℕ × List ℕ) : Type 0 where
  pub c : ℕ
  pub d : ℕ
  pub parts : bytes ≡ c ∷ d ∷ x.1
  pub hex_c : IsTrue (is_ascii_hexdigit c)
  pub hex_d : IsTrue (is_ascii_hexdigit d)
  pub value : x.0 ≡ (n * 16 + hex_value c) * 16 + hex_value d

pub hex_pair_sound : (n : ℕ) (bytes : List ℕ) (x : ℕ × List ℕ) → hex_pair_at n bytes ≡ Ok x → PairIs n bytes x
unfolding hex_pair_at
hex_pair_sound n bytes x e =
    let a = bind_ok (hex_at 0 15 bytes) (λ c. hex_at 0 15 c.1 >>= λ d. Ok ((n * 16 + c.0) * 16 + d.0, d.1)) x e in
    let b = bind_ok (hex_at 0 15 a.0.1) (λ d. Ok ((n * 16 + a.0.0) * 16 + d.0, d.1)) x a.2 in
    let s = hex_sound 0 15 bytes a.0 a.1 in
    let t = hex_sound 0 15 a.0.1 b.0 b.1 in
    let value : (n * 16 + a.0.0) * 16 + b.0.0 ≡ (n * 16 + hex_value s.digit) * 16 + hex_value t.digit =
    pair_sum n _ _ _ _ s.value t.value in
    subst (λ (y : ℕ × List ℕ). PairIs n bytes y) (ok_is ((n * 16 + a.0.0) * 16 + b.0.0, b.0.1) x b.2)
    (record {
      c = s.digit;
      d = t.digit;
      parts = s.parts ∙ ap (λ (w : List ℕ). s.digit ∷ w) t.parts;
      hex_c = s.hex;
      hex_d = t.hex;
      value = value;
    })

-- four digits, the first two of which are a and b
unit_from : (a b : ℕ) (n : ℕ) (bytes : List ℕ) (x : ℕ × List ℕ) → IsTrue (is_ascii_hexdigit a) → IsTrue (is_ascii_hexdigit b)
    → n ≡ hex_value a * 16 + hex_value b → PairIs n bytes x → (word : List ℕ) × (a ∷ b ∷ bytes ≡ word ++ x.1) × IsUnit word x.0
unit_from a b n bytes x ha hb e p =
    let value : ((hex_value a * 16 + hex_value b) * 16 + hex_value p.c) * 16 + hex_value p.d ≡ x.0 = rw (← e) (sym p.value) in (
      a ∷ b ∷ p.c ∷ p.d ∷ [],
      ap (λ (w : List ℕ). a ∷ b ∷ w) p.parts,
      subst (λ (m : ℕ). IsUnit (a ∷ b ∷ p.c ∷ p.d ∷ []) m) value
          (unit a b p.c p.d ha hb p.hex_c p.hex_d),
    )

same_sum : (a b c d : ℕ) → a ≡ c → b ≡ d → a * 16 + b ≡ c * 16 + d
same_sum a b c d e f = cc

record UnitIs (bytes : List ℕ) (x : ℕ × List ℕ) : Type 0 where
  pub word : List ℕ
  pub parts : bytes ≡ word ++ x.1
  pub is : IsUnit word x.0

low_sound : (bytes : List ℕ) (x : ℕ × List ℕ) → low_at bytes ≡ Ok x → UnitIs bytes x × IsLow x.0
unfolding low_at
low_sound bytes x e =
    let a = bind_ok (hex_at 13 13 bytes) (λ a. hex_at 12 15 a.1 >>= λ b. hex_pair_at (a.0 * 16 + b.0) b.1) x e in
    let b = bind_ok (hex_at 12 15 a.0.1) (λ b. hex_pair_at (a.0.0 * 16 + b.0) b.1) x a.2 in
    let s = hex_sound 13 13 bytes a.0 a.1 in
    let t = hex_sound 12 15 a.0.1 b.0 b.1 in
    let p = hex_pair_sound (a.0.0 * 16 + b.0.0) b.0.1 x b.2 in
    let sum : a.0.0 * 16 + b.0.0 ≡ hex_value s.digit * 16 + hex_value t.digit = same_sum _ _ _ _ s.value t.value in
    let u = unit_from s.digit t.digit (a.0.0 * 16 + b.0.0) b.0.1 x s.hex t.hex sum p in
    let c = hex_small p.c p.hex_c in
    let d = hex_small p.d p.hex_d in (
      record {
        word = u.0;
        parts = s.parts ∙ ap (λ (w : List ℕ). s.digit ∷ w) t.parts ∙ u.1;
        is = u.2;
      },
      (omega (arith, p.value, s.low_is, t.low_is), omega (arith, p.value, s.high_is, t.high_is)),
    )

pub word_sound : (b c : ℕ) (bytes rest : List ℕ) → 0 < b → 0 < c → after_word (b ∷ c ∷ []) bytes ≡ Ok rest → bytes ≡ b ∷ c ∷ rest
unfolding after_word
word_sound b c bytes rest some more e =
    let g = guarded (eqb (first bytes) b) (length bytes) (after_word (c ∷ []) (drop 1 bytes)) rest e in
    let h = guarded (eqb (first (drop 1 bytes)) c) (length (drop 1 bytes)) (Ok (drop 1 (drop 1 bytes))) rest g.1 in
    begins bytes b some (eqb-true _ _ g.0) ∙ ap (λ (w : List ℕ). b ∷ w) (begins (drop 1 bytes) c more (eqb-true _ _ h.0)
    ∙ ap (λ (w : List ℕ). c ∷ w) (ok_is (drop 1 (drop 1 bytes)) rest h.1))

pub record LongIs (bytes : List ℕ) (x : ℕ × List ℕ) : Type 0 where
  pub word : List ℕ
  pub parts : bytes ≡ word ++ x.1
  pub is : IsChar (92 ∷ 117 ∷ word) x.0

after_high_sound : (high : ℕ) (front bytes : List ℕ) (x : ℕ × List ℕ) → IsUnit front high → IsHigh high → after_high_at high bytes ≡ Ok x
    → LongIs (front ++ bytes) x
unfolding after_high_at
after_high_sound high front bytes x u h e =
    let a = bind_ok (after_word (92 ∷ 117 ∷ []) bytes) (λ rest. low_at rest >>= λ low. Ok (of_pair high low.0, low.1)) x e in
    let b = bind_ok (low_at a.0) (λ low. Ok (of_pair high low.0, low.1)) x a.2 in
    let l = low_sound a.0 b.0 b.1 in
    let w = word_sound 92 117 bytes a.0 (omega arith) (omega arith) a.1 in
    subst (λ (y : ℕ × List ℕ). LongIs (front ++ bytes) y) (ok_is (of_pair high b.0.0, b.0.1) x b.2)
    (record {
      word = front ++ 92 ∷ 117 ∷ l.0.word;
      parts = ap (λ (t : List ℕ). front ++ t) (w ∙ ap (λ (t : List ℕ). 92 ∷ 117 ∷ t) l.0.parts)
          ∙ sym (append_assoc front (92 ∷ 117 ∷ l.0.word) b.0.1);
      is = pair front l.0.word high b.0.0 u h l.0.is l.1;
    })

pub scalar_from : (c : ℕ) → (c < 0xD800) ⊎ ((0xE000 ≤ c) × (c < 0x110000)) → IsScalar c
scalar_from c (inl h) = cond-true _ _ _ (lt-ltb _ _ h)
scalar_from c (inr h) = cond-false _ _ _ (le-ltb c 0xD800 (omega (arith, h.0))) ∙ and_from _ _ (le-leb _ _ h.0) (lt-ltb _ _ h.1)

other_high : (a b n c d : ℕ) → 13 ≤ a → (a ≡ 13 → ⊥) → a ≤ 15 → b ≤ 15 → n ≡ ((a * 16 + b) * 16 + c) * 16 + d → c < 16 → d < 16
    → (0xE000 ≤ n) × (n < 0x110000)
other_high a b n c d l other h hb e hc hd =
    let more : 14 ≤ a = omega arith in
    (omega arith, omega arith)

-- four digits that are neither half of a pair
pub no_surrogate : (a b n c d : ℕ) → a ≤ 15 → b ≤ cond (eqb a 13) 11 15 → n ≡ ((a * 16 + b) * 16 + c) * 16 + d → c < 16 → d < 16
    → (leb 0xD800 n && ltb n 0xDC00) ≡ false → (n < 0xD800) ⊎ ((0xE000 ≤ n) × (n < 0x110000))
no_surrogate a b n c d ha hb e hc hd test = elim (cases_Bool (eqb a 13)) [
  | inl is ↦
      let b_is : b ≤ 11 = rw (cond-true {A = ℕ} (eqb a 13) 11 15 is) at hb in
      let a_is = eqb-true a 13 is in
      elim (cases_lt n 0xD800) [
        | inl h ↦ inl h
        | inr h ↦ elim (cases_lt n 0xDC00) [
          | inl k ↦ absurd (false≢true (sym test ∙ and_from _ _ (le-leb _ _ h) (lt-ltb _ _ k)))
          | inr k ↦ absurd (omega arith)
        ]
      ]
  | inr is ↦
      let b_is : b ≤ 15 = rw (cond-false {A = ℕ} (eqb a 13) 11 15 is) at hb in
      let a_is = eqb-false a 13 is in
      elim (cases_lt a 13) [
        | inl h ↦ inl (omega arith)
        | inr h ↦ inr (other_high a b n c d h a_is ha b_is e hc hd)
      ]
]

pub long_sound : (bytes : List ℕ) (x : ℕ × List ℕ) → long_at bytes ≡ Ok x → LongIs bytes x
unfolding long_at
long_sound bytes x e =
    let last : ℕ × List ℕ → Read ℕ = λ n. cond (leb 0xD800 n.0 && ltb n.0 0xDC00) (after_high_at n.0 n.1) (Ok n) in
    let a = bind_ok (hex_at 0 15 bytes) (λ a. hex_at 0 (cond (eqb a.0 13) 11 15) a.1 >>= λ b. hex_pair_at (a.0 * 16 + b.0) b.1 >>= last) x
    e in
    let b = bind_ok (hex_at 0 (cond (eqb a.0.0 13) 11 15) a.0.1) (λ b. hex_pair_at (a.0.0 * 16 + b.0) b.1 >>= last) x a.2 in
    let c = bind_ok (hex_pair_at (a.0.0 * 16 + b.0.0) b.0.1) last x b.2 in
    let s = hex_sound 0 15 bytes a.0 a.1 in
    let t = hex_sound 0 (cond (eqb a.0.0 13) 11 15) a.0.1 b.0 b.1 in
    let p = hex_pair_sound (a.0.0 * 16 + b.0.0) b.0.1 c.0 c.1 in
    let sum : a.0.0 * 16 + b.0.0 ≡ hex_value s.digit * 16 + hex_value t.digit = same_sum _ _ _ _ s.value t.value in
    let u = unit_from s.digit t.digit (a.0.0 * 16 + b.0.0) b.0.1 c.0 s.hex t.hex sum p in
    let parts : bytes ≡ u.0 ++ c.0.1 = s.parts ∙ ap (λ (w : List ℕ). s.digit ∷ w) t.parts ∙ u.1 in
    elim (chosen (leb 0xD800 c.0.0 && ltb c.0.0 0xDC00) (after_high_at c.0.0 c.0.1) (Ok c.0) (Ok x) c.2) [
      | inl g ↦
          let k = and_parts (leb 0xD800 c.0.0) (ltb c.0.0 0xDC00) g.0 in
          subst (λ (w : List ℕ). LongIs w x) (sym parts) (after_high_sound c.0.0 u.0 c.0.1 x u.2 (leb-true _ _ k.0, ltb-true _ _ k.1) g.1)
      | inr g ↦
          let cd = hex_small p.c p.hex_c in
          let dd = hex_small p.d p.hex_d in
          let range : (c.0.0 < 0xD800) ⊎ ((0xE000 ≤ c.0.0) × (c.0.0 < 0x110000)) =
          no_surrogate a.0.0 b.0.0 c.0.0 (hex_value p.c) (hex_value p.d) s.high_is t.high_is p.value cd dd g.0 in
          subst (λ (y : ℕ × List ℕ). LongIs bytes y) (ok_is c.0 x g.1) (record {
            word = u.0;
            parts = parts;
            is = long u.0 c.0.0 u.2 (scalar_from c.0.0 range);
          })
    ]

pub record CharIs (bytes : List ℕ) (x : ℕ × List ℕ) : Type 0 where
  pub word : List ℕ
  pub parts : bytes ≡ word ++ x.1
  pub is : IsChar word x.0
  pub scalar : IsScalar x.0

-- ---- characters in UTF-8

pub record TailIs (low high n : ℕ) (bytes : List ℕ) (x : ℕ × List ℕ) : Type 0 where
  pub byte : ℕ
  pub parts : bytes ≡ byte ∷ x.1
  pub low_is : low ≤ byte
  pub high_is : byte ≤ high
  pub value : x.0 ≡ n * 64 + (byte - 128)

pub tail_sound : (low high n : ℕ) (bytes : List ℕ) (x : ℕ × List ℕ) → 0 < low → tail_at low high n bytes ≡ Ok x → TailIs low high n bytes x
unfolding tail_at
tail_sound low high n bytes x some e =
    let b = first bytes in
    let g = guarded (leb low b && leb b high) (length bytes) (Ok (n * 64 + (b - 128), drop 1 bytes)) x e in
    let p = and_parts (leb low b) (leb b high) g.0 in
    let l = leb-true low b p.0 in
    subst (λ (y : ℕ × List ℕ). TailIs low high n bytes y) (ok_is (n * 64 + (b - 128), drop 1 bytes) x g.1)
    (record { byte = b; parts = begins bytes b (omega arith) refl; low_is = l; high_is = leb-true _ _ p.1; value = refl })

-- the bytes are those of the character
pub record Encodes (c : ℕ) (word : List ℕ) : Type 0 where
  pub bytes : encode_utf8 c ≡ word
  pub scalar : IsScalar c
  pub high : 128 ≤ c

pub encodes_2 : (b x c : ℕ) → 194 ≤ b → b ≤ 223 → 128 ≤ x → x ≤ 191 → c ≡ (b - 192) * 64 + (x - 128) → Encodes c (b ∷ x ∷ [])
encodes_2 b x c lb hb lx hx e =
    let first_is : 192 + c / 64 ≡ b = omega arith in
    let second_is : 128 + c % 64 ≡ x = omega arith in
    record {
      bytes = encode_2 c (omega arith) (omega arith) ∙ rw (first_is, second_is) refl;
      scalar = scalar_from c (inl (omega arith));
      high = omega arith;
    }

low_3 : (b x : ℕ) → 224 ≤ b → cond (eqb b 224) 160 128 ≤ x → (128 ≤ x) × (2048 ≤ (b - 224) * 4096 + (x - 128) * 64)
low_3 b x l h = elim (cases_Bool (eqb b 224)) [
  | inl t ↦ let k : 160 ≤ x = rw (cond-true {A = ℕ} (eqb b 224) 160 128 t) at h in (omega arith, omega arith)
  | inr t ↦
      let k : 128 ≤ x = rw (cond-false {A = ℕ} (eqb b 224) 160 128 t) at h in
      let other : b ≡ 224 → ⊥ = eqb-false b 224 t in
      let more : 225 ≤ b = omega (arith, other) in
      (k, omega arith)
]

high_3 : (b x : ℕ) → x ≤ cond (eqb b 237) 159 191 → (x ≤ 191) × ((b ≡ 237 → ⊥) ⊎ (x ≤ 159))
high_3 b x h = elim (cases_Bool (eqb b 237)) [
  | inl t ↦ let k : x ≤ 159 = rw (cond-true {A = ℕ} (eqb b 237) 159 191 t) at h in (omega arith, inr k)
  | inr t ↦ (rw (cond-false {A = ℕ} (eqb b 237) 159 191 t) at h, inl (eqb-false b 237 t))
]

range_3 : (b p c : ℕ) → 224 ≤ b → b ≤ 239 → p < 64 → ((b - 224) * 64 + p) * 64 ≤ c → c < ((b - 224) * 64 + p) * 64 + 64
    → (b ≡ 237 → ⊥) ⊎ (p ≤ 31) → (c < 0xD800) ⊎ ((0xE000 ≤ c) × (c < 0x110000))
range_3 b p c lb hb lp lc hc (inl other) = elim (cases_lt b 237) [
  | inl l ↦ inl (omega arith)
  | inr l ↦
      let more : 238 ≤ b = omega (arith, other) in
      inr (omega arith, omega arith)
]
range_3 b p c lb hb lp lc hc (inr few) = elim (cases_lt b 238) [
  | inl l ↦ inl (omega arith)
  | inr l ↦ inr (omega arith, omega arith)
]

is_few : (b x : ℕ) → (b ≡ 237 → ⊥) ⊎ (x ≤ 159) → (b ≡ 237 → ⊥) ⊎ (x - 128 ≤ 31)
is_few b x (inl other) = inl other
is_few b x (inr few) = inr (omega arith)

three_bytes : (b x y c : ℕ) → 224 ≤ b → b ≤ 239 → 128 ≤ x → x ≤ 191 → 2048 ≤ (b - 224) * 4096 + (x - 128) * 64 → 128 ≤ y → y ≤ 191
    → c ≡ ((b - 224) * 64 + (x - 128)) * 64 + (y - 128) → (c < 0xD800) ⊎ ((0xE000 ≤ c) × (c < 0x110000)) → Encodes c (b ∷ x ∷ y ∷ [])
three_bytes b x y c lb hb lx hx small ly hy e range =
    let least : 2048 ≤ c = omega arith in
    let greatest : c < 65536 = omega arith in
    let first_is : 224 + c / 4096 ≡ b = omega arith in
    let second_is : 128 + (c / 64) % 64 ≡ x = omega arith in
    let third_is : 128 + c % 64 ≡ y = omega arith in
    record { bytes = encode_3 c least greatest ∙ rw (first_is, second_is, third_is) refl; scalar = scalar_from c range; high = omega arith }

pub encodes_3 : (b x y c : ℕ) → 224 ≤ b → b ≤ 239 → cond (eqb b 224) 160 128 ≤ x → x ≤ cond (eqb b 237) 159 191 → 128 ≤ y → y ≤ 191
    → c ≡ ((b - 224) * 64 + (x - 128)) * 64 + (y - 128) → Encodes c (b ∷ x ∷ y ∷ [])
encodes_3 b x y c lb hb lx hx ly hy e =
    let low = low_3 b x lb lx in
    let high = high_3 b x hx in
    three_bytes b x y c lb hb low.0 high.0 low.1 ly hy e (range_3 b (x - 128) c lb hb (omega (arith, high.0, low.0)) (omega (arith, e))
    (omega (arith, e)) (is_few b x high.1))

low_4 : (b x : ℕ) → 240 ≤ b → cond (eqb b 240) 144 128 ≤ x → (128 ≤ x) × (65536 ≤ (b - 240) * 262144 + (x - 128) * 4096)
low_4 b x l h = elim (cases_Bool (eqb b 240)) [
  | inl t ↦ let k : 144 ≤ x = rw (cond-true {A = ℕ} (eqb b 240) 144 128 t) at h in (omega arith, omega arith)
  | inr t ↦
      let k : 128 ≤ x = rw (cond-false {A = ℕ} (eqb b 240) 144 128 t) at h in
      let other : b ≡ 240 → ⊥ = eqb-false b 240 t in
      let more : 241 ≤ b = omega (arith, other) in
      (k, omega arith)
]

high_4 : (b x : ℕ) → b ≤ 244 → x ≤ cond (eqb b 244) 143 191 → (x ≤ 191) × ((b - 240) * 262144 + (x - 128) * 4096 ≤ 1110016)
high_4 b x l h = elim (cases_Bool (eqb b 244)) [
  | inl t ↦
      let k : x ≤ 143 = rw (cond-true {A = ℕ} (eqb b 244) 143 191 t) at h in
      let same : b ≡ 244 = eqb-true b 244 t in
      (omega arith, omega arith)
  | inr t ↦
      let k : x ≤ 191 = rw (cond-false {A = ℕ} (eqb b 244) 143 191 t) at h in
      let other : b ≡ 244 → ⊥ = eqb-false b 244 t in
      let less : b ≤ 243 = omega (arith, other) in
      (k, omega arith)
]

four_bytes : (b x y z c : ℕ) → 240 ≤ b → b ≤ 244 → 128 ≤ x → x ≤ 191 → 65536 ≤ (b - 240) * 262144 + (x - 128) * 4096
    → (b - 240) * 262144 + (x - 128) * 4096 ≤ 1110016 → 128 ≤ y → y ≤ 191 → 128 ≤ z → z ≤ 191
    → c ≡ (((b - 240) * 64 + (x - 128)) * 64 + (y - 128)) * 64 + (z - 128) → Encodes c (b ∷ x ∷ y ∷ z ∷ [])
four_bytes b x y z c lb hb lx hx small big ly hy lz hz e =
    let least : 65536 ≤ c = omega arith in
    let greatest : c < 1114112 = omega arith in
    let first_is : 240 + c / 262144 ≡ b = omega arith in
    let second_is : 128 + (c / 4096) % 64 ≡ x = omega arith in
    let third_is : 128 + (c / 64) % 64 ≡ y = omega arith in
    let fourth_is : 128 + c % 64 ≡ z = omega arith in
    record {
      bytes = encode_4 c least ∙ rw (first_is, second_is, third_is, fourth_is) refl;
      scalar = scalar_from c (inr (omega arith, greatest));
      high = omega arith;
    }

pub encodes_4 : (b x y z c : ℕ) → 240 ≤ b → b ≤ 244 → cond (eqb b 240) 144 128 ≤ x → x ≤ cond (eqb b 244) 143 191 → 128 ≤ y → y ≤ 191
    → 128 ≤ z → z ≤ 191 → c ≡ (((b - 240) * 64 + (x - 128)) * 64 + (y - 128)) * 64 + (z - 128) → Encodes c (b ∷ x ∷ y ∷ z ∷ [])
encodes_4 b x y z c lb hb lx hx ly hy lz hz e =
    let low = low_4 b x lb lx in
    let high = high_4 b x hb hx in
    four_bytes b x y z c lb hb low.0 high.0 low.1 high.1 ly hy lz hz e

-- a character of several bytes stands for itself
stands : (c : ℕ) (word bytes rest : List ℕ) (x : ℕ × List ℕ) → Encodes c word → (c ≡ x.0) → bytes ≡ word ++ x.1 → CharIs bytes x
stands c word bytes rest x n e parts =
    let is : IsChar (encode_utf8 c) c =
    itself c n.scalar (omega (arith, n.high)) (λ same. omega (arith, n.high)) (λ same. omega (arith, n.high)) in
    record {
      word = word;
      parts = parts;
      is = subst (λ (d : ℕ). IsChar word d) e (subst (λ (w : List ℕ). IsChar w c) n.bytes is);
      scalar = subst IsScalar e n.scalar;
    }

two_sound : (b : ℕ) (rest : List ℕ) (x : ℕ × List ℕ) → 194 ≤ b → b ≤ 223 → tail_at 128 191 (b - 192) rest ≡ Ok x → CharIs (b ∷ rest) x
two_sound b rest x l h e =
    let t = tail_sound 128 191 (b - 192) rest x (omega arith) e in
    stands x.0 (b ∷ t.byte ∷ []) (b ∷ rest) x.1 x (encodes_2 b t.byte x.0 l h t.low_is t.high_is t.value) refl
    (ap (λ (w : List ℕ). b ∷ w) t.parts)

pub low_some : (b : Bool) (n : ℕ) → 0 < n → 0 < cond b n 128
low_some true n h = h
low_some false n h = omega arith

three_sound : (b : ℕ) (rest : List ℕ) (x : ℕ × List ℕ) → 224 ≤ b → b ≤ 239 → three_at b rest ≡ Ok x → CharIs (b ∷ rest) x
unfolding three_at
three_sound b rest x l h e =
    let low = cond (eqb b 224) 160 128 in
    let high = cond (eqb b 237) 159 191 in
    let k = bind_ok (tail_at low high (b - 224) rest) (λ x. tail_at 128 191 x.0 x.1) x e in
    let t = tail_sound low high (b - 224) rest k.0 (low_some (eqb b 224) 160 (omega arith)) k.1 in
    let u = tail_sound 128 191 k.0.0 k.0.1 x (omega arith) k.2 in
    let value : x.0 ≡ ((b - 224) * 64 + (t.byte - 128)) * 64 + (u.byte - 128) = u.value ∙ ap (λ (n : ℕ). n * 64 + (u.byte - 128)) t.value in
    stands x.0 (b ∷ t.byte ∷ u.byte ∷ []) (b ∷ rest) x.1 x (encodes_3 b t.byte u.byte x.0 l h t.low_is t.high_is u.low_is u.high_is value)
    refl (ap (λ (w : List ℕ). b ∷ w) (t.parts ∙ ap (λ (w : List ℕ). t.byte ∷ w) u.parts))

four_sound : (b : ℕ) (rest : List ℕ) (x : ℕ × List ℕ) → 240 ≤ b → b ≤ 244 → four_at b rest ≡ Ok x → CharIs (b ∷ rest) x
unfolding four_at
four_sound b rest x l h e =
    let low = cond (eqb b 240) 144 128 in
    let high = cond (eqb b 244) 143 191 in
    let k = bind_ok (tail_at low high (b - 240) rest) (λ x. tail_at 128 191 x.0 x.1 >>= λ y. tail_at 128 191 y.0 y.1) x e in
    let m = bind_ok (tail_at 128 191 k.0.0 k.0.1) (λ y. tail_at 128 191 y.0 y.1) x k.2 in
    let t = tail_sound low high (b - 240) rest k.0 (low_some (eqb b 240) 144 (omega arith)) k.1 in
    let u = tail_sound 128 191 k.0.0 k.0.1 m.0 (omega arith) m.1 in
    let v = tail_sound 128 191 m.0.0 m.0.1 x (omega arith) m.2 in
    let value : x.0 ≡ (((b - 240) * 64 + (t.byte - 128)) * 64 + (u.byte - 128)) * 64 + (v.byte - 128) =
    v.value ∙ ap (λ (n : ℕ). n * 64 + (v.byte - 128)) (u.value ∙ ap (λ (n : ℕ). n * 64 + (u.byte - 128)) t.value) in
    stands x.0 (b ∷ t.byte ∷ u.byte ∷ v.byte ∷ [])
    (b ∷ rest) x.1 x (encodes_4 b t.byte u.byte v.byte x.0 l h t.low_is t.high_is u.low_is u.high_is v.low_is v.high_is value) refl
    (ap (λ (w : List ℕ). b ∷ w) (t.parts ∙ ap (λ (w : List ℕ). t.byte ∷ w) (u.parts ∙ ap (λ (w : List ℕ). u.byte ∷ w) v.parts)))

one_sound : (b : ℕ) (bytes : List ℕ) (x : ℕ × List ℕ) → first bytes ≡ b → 32 ≤ b → (b ≡ 34 → ⊥) → (b ≡ 92 → ⊥) → b < 128
    → (b, drop 1 bytes) ≡ x → CharIs bytes x
one_sound b bytes x e l q s h same =
    let scalar = scalar_from b (inl (omega arith)) in
    let is : IsChar (b ∷ []) b = subst (λ (w : List ℕ). IsChar w b) (encode_1 b h) (itself b scalar l q s) in
    subst (λ (y : ℕ × List ℕ). CharIs bytes y) same (record {
      word = b ∷ [];
      parts = begins bytes b (omega arith) e;
      is = is;
      scalar = scalar;
    })

plain_sound : (bytes : List ℕ) (x : ℕ × List ℕ) → (first bytes ≡ 92 → ⊥) → plain_at (first bytes) bytes ≡ Ok x → CharIs bytes x
unfolding plain_at
plain_sound bytes x other e =
    let b : ℕ = first bytes in
    let rest = drop 1 bytes in
    let last : Read ℕ = cond (leb 240 b && leb b 244) (four_at b rest) (stop bytes) in
    let third : Read ℕ = cond (leb 224 b && leb b 239) (three_at b rest) last in
    let second : Read ℕ = cond (leb 194 b && leb b 223) (tail_at 128 191 (b - 192) rest) third in
    let one : Read ℕ = cond (ltb b 128) (Ok (b, rest)) second in
    let g = unless (ltb b 32 || eqb b 34) (length bytes) one x e in
    let q = or_parts (ltb b 32) (eqb b 34) g.0 in
    let l = ltb-false b 32 q.0 in
    let whole : bytes ≡ b ∷ rest = begins bytes b (omega arith) refl in
    elim (chosen (ltb b 128) (Ok (b, rest)) second (Ok x) g.1) [
      | inl c ↦ one_sound b bytes x refl l (eqb-false _ _ q.1) other (ltb-true _ _ c.0) (ok_is (b, rest) x c.1)
      | inr c ↦ rw whole (elim (chosen (leb 194 b && leb b 223) (tail_at 128 191 (b - 192) rest) third (Ok x) c.1) [
        | inl d ↦ let p = and_parts (leb 194 b) (leb b 223) d.0 in two_sound b rest x (leb-true _ _ p.0) (leb-true _ _ p.1) d.1
        | inr d ↦ elim (chosen (leb 224 b && leb b 239) (three_at b rest) last (Ok x) d.1) [
          | inl f ↦ let p = and_parts (leb 224 b) (leb b 239) f.0 in three_sound b rest x (leb-true _ _ p.0) (leb-true _ _ p.1) f.1
          | inr f ↦
              let h = guarded (leb 240 b && leb b 244) (length bytes) (four_at b rest) x f.1 in
              let p = and_parts (leb 240 b) (leb b 244) h.0 in
              four_sound b rest x (leb-true _ _ p.0) (leb-true _ _ p.1) h.1
        ]
      ])
    ]

-- ---- all characters

some_small : (v c : ℕ) → v < 128 → Some v ≡ Some c → c < 128
some_small v c lt e =
    let same : v ≡ c = cc in
    omega arith

small_if : (b : Bool) (v c : ℕ) (o : Option ℕ) → v < 128 → (o ≡ Some c → c < 128) → cond b (Some v) o ≡ Some c → c < 128
small_if true v c o lt h e = some_small v c lt e
small_if false v c o lt h e = h e

short_small : (letter c : ℕ) → short_escape letter ≡ Some c → c < 128
short_small letter c e =
    small_if (eqb letter 34) 34 c _ (omega arith)
    (small_if (eqb letter 92) 92 c _ (omega arith)
    (small_if (eqb letter 47) 47 c _ (omega arith) (small_if (eqb letter 98) 8 c _ (omega arith)
    (small_if (eqb letter 102) 12 c _ (omega arith)
    (small_if (eqb letter 110) 10 c _ (omega arith)
    (small_if (eqb letter 114) 13 c _ (omega arith) (small_if (eqb letter 116) 9 c None (omega arith) (λ none. absurd cc)))))))) e

pub char_scalar : {word : List ℕ} {c : ℕ} → IsChar word c → IsScalar c
char_scalar (itself c s l q e) = s
char_scalar (short letter c e) = scalar_from c (inl (omega (arith, short_small letter c e)))
char_scalar (long word c u s) = s
char_scalar (pair front back high low u h v l) =
    scalar_from (of_pair high low) (inr (omega (arith, h.0, h.1, l.0, l.1), omega (arith, h.0, h.1, l.0, l.1)))

char_from : (bytes word : List ℕ) (x : ℕ × List ℕ) → bytes ≡ word ++ x.1 → IsChar word x.0 → CharIs bytes x
char_from bytes word x parts is = record { word = word; parts = parts; is = is; scalar = char_scalar is }

letter_some : (letter c : ℕ) → short_escape letter ≡ Some c → 0 < letter
letter_some zero c e = absurd cc
letter_some (suc n) c e = omega arith

short_sound : (o : Option ℕ) (bytes : List ℕ) (x : ℕ × List ℕ) → short_escape (first bytes) ≡ o → short_escape_at o bytes ≡ Ok x
    → CharIs (92 ∷ bytes) x
short_sound None bytes x same e = absurd cc
short_sound (Some c) bytes x same e =
    let is = ok_is (c, drop 1 bytes) x e in
    subst (λ (y : ℕ × List ℕ). CharIs (92 ∷ bytes) y) is
    (char_from (92 ∷ bytes) (92 ∷ first bytes ∷ []) (c, drop 1 bytes)
    (ap (λ (w : List ℕ). 92 ∷ w) (begins bytes (first bytes) (letter_some (first bytes) c same) refl)) (short (first bytes) c same))

escape_sound : (bytes : List ℕ) (x : ℕ × List ℕ) → escape_at bytes ≡ Ok x → CharIs (92 ∷ bytes) x
unfolding escape_at
escape_sound bytes x e =
    elim (chosen (eqb (first bytes) 117) (long_at (drop 1 bytes)) (short_escape_at (short_escape (first bytes)) bytes) (Ok x) e) [
      | inl c ↦
          let l = long_sound (drop 1 bytes) x c.1 in
          char_from (92 ∷ bytes) (92 ∷ 117 ∷ l.word) x (ap (λ (w : List ℕ). 92 ∷ w) (begins bytes 117 (omega arith) (eqb-true _ _ c.0)
          ∙ ap (λ (w : List ℕ). 117 ∷ w) l.parts)) l.is
      | inr c ↦ short_sound (short_escape (first bytes)) bytes x refl c.1
    ]

pub char_sound : (bytes : List ℕ) (x : ℕ × List ℕ) → char_at bytes ≡ Ok x → CharIs bytes x
unfolding char_at
char_sound bytes x e = elim (chosen (eqb (first bytes) 92) (escape_at (drop 1 bytes)) (plain_at (first bytes) bytes) (Ok x) e) [
  | inl c ↦ rw (begins bytes 92 (omega arith) (eqb-true _ _ c.0)) (escape_sound (drop 1 bytes) x c.1)
  | inr c ↦ plain_sound bytes x (eqb-false _ _ c.0) c.1
]
