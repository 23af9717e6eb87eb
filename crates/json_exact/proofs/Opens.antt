-- What was read before a fault in a text or a number can be completed.
use Rattle.std.proofs.Common.{◌≡◌, ℕ, ◌+◌, ◌*◌, ◌<◌, ◌≤◌, Bool, true, false, cond, eqb, leb, ltb, List, [], ◌∷◌, ◌++◌, length, drop, Result}
use Rattle.std.proofs.Common.{Ok, Err, refl, sym, ap, subst, ◌∙◌, append_assoc, arith, inl, inr, ◌⊎◌, ◌&&◌}
use Rattle.std.specs.Prelude.{IsTrue}
use Rattle.std.specs.List.{AllByRecursion}
use Rattle.std.specs.Char.{is_ascii_hexdigit}
use Rattle.std.proofs.lemmas.Bool.{cases_Bool, and_parts, eqb-true, leb-true, ltb-true}
use Rattle.json_exact.specs.Reading.{hex_value, IsUnit, unit, IsHigh, IsLow, of_pair, IsChar, long, pair}
use Rattle.fixed_num.specs.Steps.{◌>>=◌}
use Rattle.fixed_num.specs.Front.{Read, first, stop}
use Rattle.json_exact.specs.inner.Reader.{after_word, hex_at, hex_pair_at, low_at, after_high_at, long_at}
use Rattle.fixed_num.proofs.Steps.{chosen, done, begins}
use Rattle.json_exact.proofs.Letters.{hex_small}
use Rattle.json_exact.proofs.Escapes.{hex_sound, scalar_from, hex_pair_sound, no_surrogate, word_sound}

-- what was read before a fault, with k bytes left, and what completes it
pub record Opens (P : List ℕ → Type 0) (bytes : List ℕ) (k : ℕ) : Type 0 where
  pub front : List ℕ
  pub rest : List ℕ
  pub more : List ℕ
  pub parts : bytes ≡ front ++ rest
  pub left : length rest ≡ k
  pub is : P (front ++ more)

-- a fault at the first byte
pub at_once : (P : List ℕ → Type 0) (bytes : List ℕ) (k : ℕ) (more : List ℕ) → length bytes ≡ k → P more → Opens P bytes k
at_once P bytes k more e is = record { front = []; rest = bytes; more = more; parts = refl; left = e; is = is }

-- a fault behind a byte
pub behind_byte : (P : List ℕ → Type 0) (b : ℕ) (bytes : List ℕ) (k : ℕ) → Opens (λ w. P (b ∷ w)) bytes k → Opens P (b ∷ bytes) k
behind_byte P b bytes k o = record {
  front = b ∷ o.front;
  rest = o.rest;
  more = o.more;
  parts = ap (λ (t : List ℕ). b ∷ t) o.parts;
  left = o.left;
  is = o.is;
}

-- the same with more at hand
pub mapped : (P Q : List ℕ → Type 0) (bytes : List ℕ) (k : ℕ) → Opens P bytes k → ((w : List ℕ) → P w → (more : List ℕ) × Q (w ++ more))
    → Opens Q bytes k
mapped P Q bytes k o f =
    let q = f (o.front ++ o.more) o.is in
    record {
      front = o.front;
      rest = o.rest;
      more = o.more ++ q.0;
      parts = o.parts;
      left = o.left;
      is = subst Q (append_assoc o.front o.more q.0) q.1;
    }

abbrev pub failed : {A : Type 0} → ℕ → Result A ℕ
failed k = Err k

same_err : {A : Type 0} {B : Type 0} (j k : ℕ) → failed {A = B} j ≡ failed k → failed {A = A} j ≡ failed k
same_err {A} {B} j k e =
    let same : j ≡ k = cc in
    ap (λ (n : ℕ). failed {A = A} n) same

-- a step that failed, or one after it
pub bind_err : {A B : Type 0} (r : Result A ℕ) (f : A → Result B ℕ) (k : ℕ) → (r >>= f) ≡ Err k
    → (r ≡ Err k) ⊎ ((x : A) × (r ≡ Ok x) × (f x ≡ Err k))
bind_err (Ok x) f k e = inr (x, refl, e)
bind_err {A} {B} (Err j) f k e = inl (same_err {B = B} j k e)

pub err_is : {A : Type 0} (j k : ℕ) → failed {A = A} j ≡ failed k → j ≡ k
err_is j k e = cc

-- a test that did not hold
pub refused : {A : Type 0} (b : Bool) (bytes : List ℕ) (x : A) (k : ℕ) → cond b (Ok x) (stop bytes) ≡ Err k → length bytes ≡ k
refused true bytes x k e = absurd cc
refused false bytes x k e = err_is (length bytes) k e

-- nothing failed
pub no_err : {A : Type 0} (x : A) (k : ℕ) → done x ≡ failed k → ⊥
no_err x k e = absurd cc

-- ---- escapes

hex_refused : (low high : ℕ) (bytes : List ℕ) (k : ℕ) → hex_at low high bytes ≡ Err k → length bytes ≡ k
unfolding hex_at
hex_refused low high bytes k e =
    refused (is_ascii_hexdigit (first bytes) && leb low (hex_value (first bytes)) && leb (hex_value (first bytes)) high) bytes
    (hex_value (first bytes), drop 1 bytes) k e

-- the word behind `\u` is completed to a character
abbrev pub IsLong : List ℕ → Type 0
IsLong word = (c : ℕ) × IsChar (92 ∷ 117 ∷ word) c

-- ---- behind a word
pub behind_word : (P : List ℕ → Type 0) (word bytes : List ℕ) (k : ℕ) → Opens (λ w. P (word ++ w)) bytes k → Opens P (word ++ bytes) k
behind_word P word bytes k o =
    record {
      front = word ++ o.front;
      rest = o.rest;
      more = o.more;
      parts = ap (λ (t : List ℕ). word ++ t) o.parts
          ∙ sym (append_assoc word o.front o.rest);
      left = o.left;
      is = subst P (sym (append_assoc word o.front o.more)) o.is;
    }

pub at_bytes : (P : List ℕ → Type 0) (bytes other : List ℕ) (k : ℕ) → bytes ≡ other → Opens P other k → Opens P bytes k
at_bytes P bytes other k e o = subst (λ (t : List ℕ). Opens P t k) (sym e) o

abbrev pub Is : List ℕ → List ℕ → Type 0
Is word w = w ≡ word

pub word_opens : (word bytes : List ℕ) (k : ℕ) → AllByRecursion (λ b. 0 < b) word → after_word word bytes ≡ Err k → Opens (Is word) bytes k
unfolding after_word
word_opens [] bytes k some e = absurd cc
word_opens (b ∷ word) bytes k some e = elim (chosen (eqb (first bytes) b) (after_word word (drop 1 bytes)) (stop bytes) (failed k) e) [
  | inl c ↦
      let o = word_opens word (drop 1 bytes) k some.1 c.1 in
      at_bytes (Is (b ∷ word)) bytes (b ∷ drop 1 bytes) k (begins bytes b some.0 (eqb-true _ _ c.0))
      (record {
        front = b ∷ o.front;
        rest = o.rest;
        more = o.more;
        parts = ap (λ (t : List ℕ). b ∷ t) o.parts;
        left = o.left;
        is = ap (λ (t : List ℕ). b ∷ t) o.is;
      })
  | inr c ↦ at_once (Is (b ∷ word)) bytes k (b ∷ word) (err_is (length bytes) k c.1) refl
]

-- four digits that can begin a character
four_digits : (a b c d : ℕ) → IsTrue (is_ascii_hexdigit a) → IsTrue (is_ascii_hexdigit b) → IsTrue (is_ascii_hexdigit c)
    → IsTrue (is_ascii_hexdigit d) → hex_value b ≤ cond (eqb (hex_value a) 13) 11 15 → (tail : List ℕ) × IsLong (a ∷ b ∷ c ∷ d ∷ tail)
four_digits a b c d ha hb hc hd low =
    let n = ((hex_value a * 16 + hex_value b) * 16 + hex_value c) * 16 + hex_value d in
    let u = unit a b c d ha hb hc hd in
    elim (cases_Bool (leb 0xD800 n && ltb n 0xDC00)) [
      | inl e ↦
          let p = and_parts (leb 0xD800 n) (ltb n 0xDC00) e in (
            92 ∷ 117 ∷ 100 ∷ 99 ∷ 48 ∷ 48 ∷ [],
            (
              of_pair n 0xDC00,
              pair (a ∷ b ∷ c ∷ d ∷ []) (100 ∷ 99 ∷ 48 ∷ 48 ∷ []) n 0xDC00 u
                  (leb-true _ _ p.0, ltb-true _ _ p.1) (unit 100 99 48 48 refl refl refl refl) (omega arith, omega arith),
            ),
          )
      | inr e ↦
          let sa = hex_small a ha in (
            [],
            (
              n,
              long (a ∷ b ∷ c ∷ d ∷ []) n u
                  (scalar_from n (no_surrogate (hex_value a) (hex_value b) n (hex_value c) (hex_value d) (omega arith) low refl
                  (hex_small c hc)
                  (hex_small d hd) e)),
            ),
          )
    ]

-- four digits of the second half of a pair
low_digits : (front : List ℕ) (high p q r s : ℕ) → IsUnit front high → IsHigh high → IsTrue (is_ascii_hexdigit p)
    → IsTrue (is_ascii_hexdigit q) → IsTrue (is_ascii_hexdigit r) → IsTrue (is_ascii_hexdigit s) → hex_value p ≡ 13 → 12 ≤ hex_value q
    → IsLong (front ++ (92 ∷ 117 ∷ p ∷ q ∷ r ∷ s ∷ []))
low_digits front high p q r s u h hp hq hr hs ep lq =
    let sq = hex_small q hq in
    let sr = hex_small r hr in
    let ss = hex_small s hs in
    let n = ((hex_value p * 16 + hex_value q) * 16 + hex_value r) * 16 + hex_value s in
    let is : IsLow n = (omega arith, omega arith) in
    (of_pair high n, pair front (p ∷ q ∷ r ∷ s ∷ []) high n u h (unit p q r s hp hq hr hs) is)

-- two more digits
pair_opens : (P : List ℕ → Type 0) (n : ℕ) (bytes : List ℕ) (k : ℕ)
    → ((c d : ℕ) → IsTrue (is_ascii_hexdigit c) → IsTrue (is_ascii_hexdigit d) → (tail : List ℕ) × P (c ∷ d ∷ tail))
    → hex_pair_at n bytes ≡ Err k → Opens P bytes k
unfolding hex_pair_at
pair_opens P n bytes k goes e =
    elim (bind_err (hex_at 0 15 bytes) (λ c. hex_at 0 15 c.1 >>= λ d. Ok ((n * 16 + c.0) * 16 + d.0, d.1)) k e) [
      | inl f ↦
          let g = goes 48 48 refl refl in
          at_once P bytes k (48 ∷ 48 ∷ g.0) (hex_refused 0 15 bytes k f) g.1
      | inr c ↦
          let s = hex_sound 0 15 bytes c.0 c.1 in
          at_bytes P bytes (s.digit ∷ c.0.1) k s.parts
          (behind_byte P s.digit c.0.1 k (elim (bind_err (hex_at 0 15 c.0.1) (λ d. Ok ((n * 16 + c.0.0) * 16 + d.0, d.1)) k c.2) [
            | inl f ↦
                let g = goes s.digit 48 s.hex refl in
                at_once (λ w. P (s.digit ∷ w)) c.0.1 k (48 ∷ g.0) (hex_refused 0 15 c.0.1 k f) g.1
            | inr d ↦ absurd (no_err ((n * 16 + c.0.0) * 16 + d.0.0, d.0.1) k d.2)
          ]))
    ]

second_digit : (a b p q : ℕ) → a ≡ p → b ≡ q → b ≤ cond (eqb a 13) 11 15 → q ≤ cond (eqb p 13) 11 15
second_digit a b p q e f h = subst (λ (n : ℕ). q ≤ cond (eqb n 13) 11 15) e (subst (λ (m : ℕ). m ≤ cond (eqb a 13) 11 15) f h)

four_value : (a b p q c d n : ℕ) → a ≡ p → b ≡ q → n ≡ ((a * 16 + b) * 16 + c) * 16 + d → ((p * 16 + q) * 16 + c) * 16 + d ≡ n
four_value a b p q c d n e f g = omega arith

low_opens : (front : List ℕ) (high : ℕ) (bytes : List ℕ) (k : ℕ) → IsUnit front high → IsHigh high → low_at bytes ≡ Err k
    → Opens (λ w. IsLong (front ++ (92 ∷ 117 ∷ w))) bytes k
unfolding low_at hex_pair_at
low_opens front high bytes k u h e =
    let P : List ℕ → Type 0 = λ w. IsLong (front ++ (92 ∷ 117 ∷ w)) in
    elim (bind_err (hex_at 13 13 bytes) (λ a. hex_at 12 15 a.1 >>= λ b. hex_pair_at (a.0 * 16 + b.0) b.1) k e) [
      | inl f ↦ at_once P bytes k (100 ∷ 99 ∷ 48 ∷ 48 ∷ []) (hex_refused 13 13 bytes k f)
          (low_digits front high 100 99 48 48 u h refl refl refl refl refl (omega arith))
      | inr a ↦
          let s = hex_sound 13 13 bytes a.0 a.1 in
          let s13 : hex_value s.digit ≡ 13 = omega (arith, s.value, s.low_is, s.high_is) in
          at_bytes P bytes (s.digit ∷ a.0.1) k s.parts
          (behind_byte P s.digit a.0.1 k (elim (bind_err (hex_at 12 15 a.0.1) (λ b. hex_pair_at (a.0.0 * 16 + b.0) b.1) k a.2) [
            | inl f ↦ at_once (λ w. P (s.digit ∷ w)) a.0.1 k (99 ∷ 48 ∷ 48 ∷ []) (hex_refused 12 15 a.0.1 k f)
                (low_digits front high s.digit 99 48 48 u h s.hex refl refl refl s13 (omega arith))
            | inr b ↦
                let t = hex_sound 12 15 a.0.1 b.0 b.1 in
                let t12 : 12 ≤ hex_value t.digit = omega (arith, t.value, t.low_is) in
                at_bytes (λ w. P (s.digit ∷ w)) a.0.1 (t.digit ∷ b.0.1) k t.parts (behind_byte (λ w. P (s.digit ∷ w)) t.digit b.0.1 k
                (pair_opens (λ w. P (s.digit ∷ t.digit ∷ w)) (a.0.0 * 16 + b.0.0) b.0.1 k
                (λ c d hc hd. ([], low_digits front high s.digit t.digit c d u h s.hex t.hex hc hd s13 t12)) b.2))
          ]))
    ]

after_high_opens : (front : List ℕ) (high : ℕ) (bytes : List ℕ) (k : ℕ) → IsUnit front high → IsHigh high → after_high_at high bytes ≡ Err k
    → Opens (λ w. IsLong (front ++ w)) bytes k
unfolding after_high_at
after_high_opens front high bytes k u h e =
    let P : List ℕ → Type 0 = λ w. IsLong (front ++ w) in
    elim (bind_err (after_word (92 ∷ 117 ∷ []) bytes) (λ rest. low_at rest >>= λ low. Ok (of_pair high low.0, low.1)) k e) [
      | inl f ↦ mapped (Is (92 ∷ 117 ∷ [])) P bytes k (word_opens (92 ∷ 117 ∷ []) bytes k (omega arith, (omega arith, tt)) f)
          (λ w same. (
            100 ∷ 99 ∷ 48 ∷ 48 ∷ [],
            subst (λ (t : List ℕ). P (t ++ (100 ∷ 99 ∷ 48 ∷ 48 ∷ []))) (sym same)
                (low_digits front high 100 99 48 48 u h refl refl refl refl refl (omega arith)),
          ))
      | inr a ↦ elim (bind_err (low_at a.0) (λ low. Ok (of_pair high low.0, low.1)) k a.2) [
        | inl f ↦ at_bytes P bytes (92 ∷ 117 ∷ a.0) k (word_sound 92 117 bytes a.0 (omega arith) (omega arith) a.1)
            (behind_byte P 92 (117 ∷ a.0) k (behind_byte (λ w. P (92 ∷ w)) 117 a.0 k (low_opens front high a.0 k u h f)))
        | inr b ↦ absurd (no_err (of_pair high b.0.0, b.0.1) k b.2)
      ]
    ]

pub long_opens : (bytes : List ℕ) (k : ℕ) → long_at bytes ≡ Err k → Opens IsLong bytes k
unfolding long_at
long_opens bytes k e =
    let last : ℕ × List ℕ → Read ℕ = λ n. cond (leb 0xD800 n.0 && ltb n.0 0xDC00) (after_high_at n.0 n.1) (Ok n) in
    elim (bind_err (hex_at 0 15 bytes) (λ a. hex_at 0 (cond (eqb a.0 13) 11 15) a.1 >>= λ b. hex_pair_at (a.0 * 16 + b.0) b.1 >>= last) k e) [
      | inl f ↦
          let d = four_digits 48 48 48 48 refl refl refl refl (omega arith) in
          at_once IsLong bytes k (48 ∷ 48 ∷ 48 ∷ 48 ∷ d.0) (hex_refused 0 15 bytes k f) d.1
      | inr a ↦
          let s = hex_sound 0 15 bytes a.0 a.1 in
          at_bytes IsLong bytes (s.digit ∷ a.0.1) k s.parts
          (behind_byte IsLong s.digit a.0.1 k
          (elim (bind_err (hex_at 0 (cond (eqb a.0.0 13) 11 15) a.0.1) (λ b. hex_pair_at (a.0.0 * 16 + b.0) b.1 >>= last) k a.2) [
            | inl f ↦
                let d = four_digits s.digit 48 48 48 s.hex refl refl refl (omega arith) in
                at_once (λ w. IsLong (s.digit ∷ w)) a.0.1 k (48 ∷ 48 ∷ 48 ∷ d.0) (hex_refused 0 (cond (eqb a.0.0 13) 11 15) a.0.1 k f) d.1
            | inr b ↦
                let t = hex_sound 0 (cond (eqb a.0.0 13) 11 15) a.0.1 b.0 b.1 in
                let low : hex_value t.digit ≤ cond (eqb (hex_value s.digit) 13) 11 15 =
                second_digit a.0.0 b.0.0 (hex_value s.digit) (hex_value t.digit) s.value t.value t.high_is in
                at_bytes (λ w. IsLong (s.digit ∷ w)) a.0.1 (t.digit ∷ b.0.1) k t.parts
                (behind_byte (λ w. IsLong (s.digit ∷ w)) t.digit b.0.1 k
                (elim (bind_err (hex_pair_at (a.0.0 * 16 + b.0.0) b.0.1) last k b.2) [
                  | inl f ↦ pair_opens (λ w. IsLong (s.digit ∷ t.digit ∷ w)) (a.0.0 * 16 + b.0.0) b.0.1 k
                      (λ c d hc hd. four_digits s.digit t.digit c d s.hex t.hex hc hd low) f
                  | inr c ↦
                      let p = hex_pair_sound (a.0.0 * 16 + b.0.0) b.0.1 c.0 c.1 in
                      elim (chosen (leb 0xD800 c.0.0 && ltb c.0.0 0xDC00) (after_high_at c.0.0 c.0.1) (Ok c.0) (failed k) c.2) [
                        | inl g ↦
                            let h = and_parts (leb 0xD800 c.0.0) (ltb c.0.0 0xDC00) g.0 in
                            let value : ((hex_value s.digit * 16 + hex_value t.digit) * 16 + hex_value p.c) * 16 + hex_value p.d ≡ c.0.0 =
                            four_value a.0.0 b.0.0 (hex_value s.digit) (hex_value t.digit) (hex_value p.c) (hex_value p.d) c.0.0 s.value
                            t.value p.value in
                            let front : List ℕ = s.digit ∷ t.digit ∷ p.c ∷ p.d ∷ [] in
                            let u : IsUnit front c.0.0 = subst (λ (m : ℕ). IsUnit front m) value
                            (unit s.digit t.digit p.c p.d s.hex t.hex p.hex_c p.hex_d) in
                            let o = after_high_opens front c.0.0 c.0.1 k u (leb-true _ _ h.0, ltb-true _ _ h.1) g.1 in
                            at_bytes (λ w. IsLong (s.digit ∷ t.digit ∷ w)) b.0.1 (p.c ∷ p.d ∷ c.0.1) k p.parts
                            (behind_byte (λ w. IsLong (s.digit ∷ t.digit ∷ w)) p.c (p.d ∷ c.0.1) k
                            (behind_byte (λ w. IsLong (s.digit ∷ t.digit ∷ p.c ∷ w)) p.d c.0.1 k o))
                        | inr g ↦ absurd (no_err c.0 k g.1)
                      ]
                ]))
          ]))
    ]
