-- What was read of a text before a fault can be completed, to a text that is none of the names.
use Rattle.std.proofs.Common.{◌≡◌, ℕ, zero, suc, ◌+◌, ◌-◌, ◌*◌, ◌<◌, ◌≤◌, max, Bool, true, false, cond, eqb, leb, ltb, List, [], ◌∷◌, ◌++◌}
use Rattle.std.proofs.Common.{length, drop, Option, Some, None, Ok, Err, refl, sym, ap, subst, append_assoc, arith, inl, inr, ◌||◌, ◌&&◌}
use Rattle.std.specs.Prelude.{encode_utf8_all}
use Rattle.std.specs.List.{list_any}
use Rattle.std.specs.Str.{bytes_eq}
use Rattle.std.specs.Char.{encode_utf8}
use Rattle.std.proofs.lemmas.Bool.{cases_Bool, and_parts, eqb-true, or_from, or_parts, leb-true, ltb-false, false_from_ne_true}
use Rattle.std.proofs.lemmas.List.{length-append}
use Rattle.std.proofs.lemmas.Slice.Eq.{bytes_eq-Decides}
use Rattle.std.proofs.lemmas.Str.{length-le-encodes}
use Rattle.std.proofs.Math.Nat.{le-max_left, le-max_right}
use Rattle.json_exact.specs.Reading.{short_escape, IsChar, itself, short, AreChars, no_char, more_chars, IsQuoted}
use Rattle.fixed_num.specs.Steps.{◌>>=◌}
use Rattle.fixed_num.specs.Front.{Read, first, stop}
use Rattle.json_exact.specs.inner.Reader.{long_at, short_escape_at, escape_at, tail_at, three_at, four_at, plain_at, char_at, chars_at}
use Rattle.json_exact.specs.inner.Reader.{quoted_at}
use Rattle.fixed_num.proofs.Steps.{chosen, begins}
use Rattle.json_exact.proofs.Escapes.{Encodes, encodes_2, encodes_3, encodes_4, tail_sound, low_some, char_sound}
use Rattle.json_exact.proofs.Quotes.{chars_sound, Quoted}
use Rattle.json_exact.proofs.Opens.{Opens, at_once, behind_byte, mapped, failed, bind_err, err_is, refused, no_err, behind_word, at_bytes}
use Rattle.json_exact.proofs.Opens.{long_opens}

abbrev pub IsSomeChar : List ℕ → Type 0
IsSomeChar word = (c : ℕ) × IsChar word c

letter_a : IsChar (97 ∷ []) 97
unfolding encode_utf8
letter_a = itself 97 refl (omega arith) (λ e. omega arith) (λ e. omega arith)

-- the bytes of a character of several bytes
of_bytes : (c : ℕ) (word : List ℕ) → Encodes c word → IsSomeChar word
of_bytes c word n = (
  c,
  subst (λ (w : List ℕ). IsChar w c) n.bytes (itself c n.scalar (omega (arith, n.high)) (λ same. omega (arith, n.high))
      (λ same. omega (arith, n.high))),
)

tail_refused : (low high n : ℕ) (bytes : List ℕ) (k : ℕ) → tail_at low high n bytes ≡ Err k → length bytes ≡ k
unfolding tail_at
tail_refused low high n bytes k e =
    refused (leb low (first bytes) && leb (first bytes) high) bytes (n * 64 + (first bytes - 128), drop 1 bytes) k e

one_of_two : (b : Bool) (n m low high : ℕ) → low ≤ n → low ≤ m → n ≤ high → m ≤ high → (low ≤ cond b n m) × (cond b n m ≤ high)
one_of_two true n m low high a b c d = (a, c)
one_of_two false n m low high a b c d = (b, d)

ordered_3 : (b : ℕ) → cond (eqb b 224) 160 128 ≤ cond (eqb b 237) 159 191
ordered_3 b = elim (cases_Bool (eqb b 224)) [
  | inl e ↦ rw (eqb-true b 224 e) (omega arith)
  | inr e ↦ rw e (one_of_two (eqb b 237) 159 191 128 191 (omega arith) (omega arith) (omega arith) (omega arith)).0
]

ordered_4 : (b : ℕ) → cond (eqb b 240) 144 128 ≤ cond (eqb b 244) 143 191
ordered_4 b = elim (cases_Bool (eqb b 240)) [
  | inl e ↦ rw (eqb-true b 240 e) (omega arith)
  | inr e ↦ rw e (one_of_two (eqb b 244) 143 191 128 191 (omega arith) (omega arith) (omega arith) (omega arith)).0
]

two_opens : (b : ℕ) (rest : List ℕ) (k : ℕ) → 194 ≤ b → b ≤ 223 → tail_at 128 191 (b - 192) rest ≡ Err k → Opens IsSomeChar (b ∷ rest) k
two_opens b rest k l h e = behind_byte IsSomeChar b rest k
    (at_once (λ w. IsSomeChar (b ∷ w)) rest k (128 ∷ []) (tail_refused 128 191 (b - 192) rest k e)
    (of_bytes _ (b ∷ 128 ∷ []) (encodes_2 b 128 ((b - 192) * 64 + (128 - 128)) l h (omega arith) (omega arith) refl)))

three_opens : (b : ℕ) (rest : List ℕ) (k : ℕ) → 224 ≤ b → b ≤ 239 → three_at b rest ≡ Err k → Opens IsSomeChar (b ∷ rest) k
unfolding three_at
three_opens b rest k l h e =
    let low : ℕ = cond (eqb b 224) 160 128 in
    let high : ℕ = cond (eqb b 237) 159 191 in
    let in_order : low ≤ high = ordered_3 b in
    let is : (x y : ℕ) → low ≤ x → x ≤ high → 128 ≤ y → y ≤ 191 → IsSomeChar (b ∷ x ∷ y ∷ []) =
    λ x y lx hx ly hy. of_bytes _ (b ∷ x ∷ y ∷ [])
    (encodes_3 b x y (((b - 224) * 64 + (x - 128)) * 64 + (y - 128)) l h lx hx ly hy refl) in
    behind_byte IsSomeChar b rest k (elim (bind_err (tail_at low high (b - 224) rest) (λ x. tail_at 128 191 x.0 x.1) k e) [
      | inl f ↦ at_once (λ w. IsSomeChar (b ∷ w)) rest k (low ∷ 128 ∷ []) (tail_refused low high (b - 224) rest k f)
          (is low 128 (omega arith) in_order (omega arith) (omega arith))
      | inr x ↦
          let t = tail_sound low high (b - 224) rest x.0 (low_some (eqb b 224) 160 (omega arith)) x.1 in
          at_bytes (λ w. IsSomeChar (b ∷ w)) rest (t.byte ∷ x.0.1) k t.parts
          (behind_byte (λ w. IsSomeChar (b ∷ w)) t.byte x.0.1 k
          (at_once (λ w. IsSomeChar (b ∷ t.byte ∷ w)) x.0.1 k (128 ∷ []) (tail_refused 128 191 x.0.0 x.0.1 k x.2)
          (is t.byte 128 t.low_is t.high_is (omega arith) (omega arith))))
    ])

four_opens : (b : ℕ) (rest : List ℕ) (k : ℕ) → 240 ≤ b → b ≤ 244 → four_at b rest ≡ Err k → Opens IsSomeChar (b ∷ rest) k
unfolding four_at
four_opens b rest k l h e =
    let low : ℕ = cond (eqb b 240) 144 128 in
    let high : ℕ = cond (eqb b 244) 143 191 in
    let in_order : low ≤ high = ordered_4 b in
    let is : (x y z : ℕ) → low ≤ x → x ≤ high → 128 ≤ y → y ≤ 191 → 128 ≤ z → z ≤ 191 → IsSomeChar (b ∷ x ∷ y ∷ z ∷ []) =
    λ x y z lx hx ly hy lz hz. of_bytes _ (b ∷ x ∷ y ∷ z ∷ [])
    (encodes_4 b x y z ((((b - 240) * 64 + (x - 128)) * 64 + (y - 128)) * 64 + (z - 128)) l h lx hx ly hy lz hz refl) in
    behind_byte IsSomeChar b rest k
    (elim (bind_err (tail_at low high (b - 240) rest) (λ x. tail_at 128 191 x.0 x.1 >>= λ y. tail_at 128 191 y.0 y.1) k e) [
      | inl f ↦ at_once (λ w. IsSomeChar (b ∷ w)) rest k (low ∷ 128 ∷ 128 ∷ []) (tail_refused low high (b - 240) rest k f)
          (is low 128 128 (omega arith) in_order (omega arith) (omega arith) (omega arith) (omega arith))
      | inr x ↦
          let t = tail_sound low high (b - 240) rest x.0 (low_some (eqb b 240) 144 (omega arith)) x.1 in
          at_bytes (λ w. IsSomeChar (b ∷ w)) rest (t.byte ∷ x.0.1) k t.parts
          (behind_byte (λ w. IsSomeChar (b ∷ w)) t.byte x.0.1 k
          (elim (bind_err (tail_at 128 191 x.0.0 x.0.1) (λ y. tail_at 128 191 y.0 y.1) k x.2) [
            | inl f ↦ at_once (λ w. IsSomeChar (b ∷ t.byte ∷ w)) x.0.1 k (128 ∷ 128 ∷ []) (tail_refused 128 191 x.0.0 x.0.1 k f)
                (is t.byte 128 128 t.low_is t.high_is (omega arith) (omega arith) (omega arith) (omega arith))
            | inr y ↦
                let u = tail_sound 128 191 x.0.0 x.0.1 y.0 (omega arith) y.1 in
                at_bytes (λ w. IsSomeChar (b ∷ t.byte ∷ w)) x.0.1 (u.byte ∷ y.0.1) k u.parts
                (behind_byte (λ w. IsSomeChar (b ∷ t.byte ∷ w)) u.byte y.0.1 k
                (at_once (λ w. IsSomeChar (b ∷ t.byte ∷ u.byte ∷ w)) y.0.1 k (128 ∷ []) (tail_refused 128 191 y.0.0 y.0.1 k y.2)
                (is t.byte u.byte 128 t.low_is t.high_is u.low_is u.high_is (omega arith) (omega arith))))
          ]))
    ])

an_a : (bytes : List ℕ) (k : ℕ) → length bytes ≡ k → Opens IsSomeChar bytes k
an_a bytes k e = at_once IsSomeChar bytes k (97 ∷ []) e (97, letter_a)

plain_opens : (bytes : List ℕ) (k : ℕ) → plain_at (first bytes) bytes ≡ Err k → Opens IsSomeChar bytes k
unfolding plain_at
plain_opens bytes k e =
    let b : ℕ = first bytes in
    let rest = drop 1 bytes in
    let last : Read ℕ = cond (leb 240 b && leb b 244) (four_at b rest) (stop bytes) in
    let third : Read ℕ = cond (leb 224 b && leb b 239) (three_at b rest) last in
    let second : Read ℕ = cond (leb 194 b && leb b 223) (tail_at 128 191 (b - 192) rest) third in
    let one : Read ℕ = cond (ltb b 128) (Ok (b, rest)) second in
    elim (chosen (ltb b 32 || eqb b 34) (stop bytes) one (failed k) e) [
      | inl c ↦ an_a bytes k (err_is (length bytes) k c.1)
      | inr c ↦
          let l = ltb-false b 32 (or_parts (ltb b 32) (eqb b 34) c.0).0 in
          let whole : bytes ≡ b ∷ rest = begins bytes b (omega arith) refl in
          elim (chosen (ltb b 128) (Ok (b, rest)) second (failed k) c.1) [
            | inl d ↦ absurd (no_err (b, rest) k d.1)
            | inr d ↦ elim (chosen (leb 194 b && leb b 223) (tail_at 128 191 (b - 192) rest) third (failed k) d.1) [
              | inl f ↦ let p = and_parts (leb 194 b) (leb b 223) f.0 in
                  at_bytes IsSomeChar bytes (b ∷ rest) k whole (two_opens b rest k (leb-true _ _ p.0) (leb-true _ _ p.1) f.1)
              | inr f ↦ elim (chosen (leb 224 b && leb b 239) (three_at b rest) last (failed k) f.1) [
                | inl g ↦ let p = and_parts (leb 224 b) (leb b 239) g.0 in
                    at_bytes IsSomeChar bytes (b ∷ rest) k whole (three_opens b rest k (leb-true _ _ p.0) (leb-true _ _ p.1) g.1)
                | inr g ↦ elim (chosen (leb 240 b && leb b 244) (four_at b rest) (stop bytes) (failed k) g.1) [
                  | inl h ↦ let p = and_parts (leb 240 b) (leb b 244) h.0 in
                      at_bytes IsSomeChar bytes (b ∷ rest) k whole (four_opens b rest k (leb-true _ _ p.0) (leb-true _ _ p.1) h.1)
                  | inr h ↦ an_a bytes k (err_is (length bytes) k h.1)
                ]
              ]
            ]
          ]
    ]

-- an escape without its first byte
abbrev IsEscape : List ℕ → Type 0
IsEscape word = IsSomeChar (92 ∷ word)

a_line : (bytes : List ℕ) (k : ℕ) → length bytes ≡ k → Opens IsEscape bytes k
a_line bytes k e = at_once IsEscape bytes k (110 ∷ []) e (10, short 110 10 refl)

short_opens : (o : Option ℕ) (bytes : List ℕ) (k : ℕ) → short_escape_at o bytes ≡ Err k → Opens IsEscape bytes k
short_opens None bytes k e = a_line bytes k (err_is (length bytes) k e)
short_opens (Some c) bytes k e = absurd (no_err (c, drop 1 bytes) k e)

escape_opens : (bytes : List ℕ) (k : ℕ) → escape_at bytes ≡ Err k → Opens IsEscape bytes k
unfolding escape_at
escape_opens bytes k e = elim (chosen (eqb (first bytes) 117) (long_at (drop 1 bytes)) (short_escape_at (short_escape (first bytes)) bytes)
    (failed k) e) [
      | inl c ↦ at_bytes IsEscape bytes (117 ∷ drop 1 bytes) k (begins bytes 117 (omega arith) (eqb-true _ _ c.0))
          (behind_byte IsEscape 117 (drop 1 bytes) k (long_opens (drop 1 bytes) k c.1))
      | inr c ↦ short_opens (short_escape (first bytes)) bytes k c.1
    ]

char_opens : (bytes : List ℕ) (k : ℕ) → char_at bytes ≡ Err k → Opens IsSomeChar bytes k
unfolding char_at
char_opens bytes k e = elim (chosen (eqb (first bytes) 92) (escape_at (drop 1 bytes)) (plain_at (first bytes) bytes) (failed k) e) [
  | inl c ↦ at_bytes IsSomeChar bytes (92 ∷ drop 1 bytes) k (begins bytes 92 (omega arith) (eqb-true _ _ c.0))
      (behind_byte IsSomeChar 92 (drop 1 bytes) k (escape_opens (drop 1 bytes) k c.1))
  | inr c ↦ plain_opens bytes k c.1
]

-- ---- texts

abbrev AreSome : List ℕ → Type 0
AreSome inside = (cs : List ℕ) × AreChars inside cs

chars_opens : (fuel : ℕ) (out bytes : List ℕ) (k : ℕ) → chars_at fuel out bytes ≡ Err k → Opens AreSome bytes k
unfolding chars_at
chars_opens zero out bytes k e = at_once AreSome bytes k [] (err_is (length bytes) k e) ([], no_char)
chars_opens (suc fuel) out bytes k e =
    elim (chosen (eqb (first bytes) 34) (Ok (out, bytes)) (char_at bytes >>= λ x. chars_at fuel (out ++ encode_utf8 x.0) x.1) (failed k) e) [
      | inl c ↦ absurd (no_err (out, bytes) k c.1)
      | inr c ↦ elim (bind_err (char_at bytes) (λ x. chars_at fuel (out ++ encode_utf8 x.0) x.1) k c.1) [
        | inl f ↦ mapped IsSomeChar AreSome bytes k (char_opens bytes k f) (λ w i. ([], (i.0 ∷ [], more_chars w [] i.0 [] i.1 no_char)))
        | inr x ↦
            let s = char_sound bytes x.0 x.1 in
            let o = chars_opens fuel (out ++ encode_utf8 x.0.0) x.0.1 k x.2 in
            at_bytes AreSome bytes (s.word ++ x.0.1) k s.parts
            (behind_word AreSome s.word x.0.1 k (record {
              front = o.front;
              rest = o.rest;
              more = o.more;
              parts = o.parts;
              left = o.left;
              is = (x.0.0 ∷ o.is.0, more_chars s.word (o.front ++ o.more) x.0.0 o.is.0 s.is o.is.1);
            }))
      ]
    ]

many : ℕ → List ℕ
many zero = []
many (suc n) = 97 ∷ many n

many_length : (n : ℕ) → length (many n) ≡ n
unfolding many
many_length zero = refl
many_length (suc n) = omega (arith, many_length n)

many_chars : (n : ℕ) → AreChars (many n) (many n)
unfolding many
many_chars zero = no_char
many_chars (suc n) = more_chars (97 ∷ []) (many n) 97 (many n) letter_a (many_chars n)

append_chars : {a cs : List ℕ} → AreChars a cs → {b ds : List ℕ} → AreChars b ds → AreChars (a ++ b) (cs ++ ds)
append_chars no_char r = r
append_chars (more_chars front back c cs i q) {b} {ds} r =
    subst (λ (w : List ℕ). AreChars w (c ∷ cs ++ ds)) (sym (append_assoc front back b))
    (more_chars front (back ++ b) c (cs ++ ds) i (append_chars q r))

longest : List (List ℕ) → ℕ
longest [] = 0
longest (name ∷ names) = max (length name) (longest names)

too_long : (t : List ℕ) (names : List (List ℕ)) → longest names < length t → list_any (bytes_eq t) names ≡ false
unfolding longest
too_long t [] lt = refl
too_long t (name ∷ names) lt =
    let this = le-max_left (length name) (longest names) in
    let others = le-max_right (length name) (longest names) in
    or_from _ _ (false_from_ne_true _ (λ e. absurd (omega (arith, ap length ((bytes_eq-Decides t name).0 e)))))
    (too_long t names (omega arith))

-- a text that is none of the names
abbrev pub Fresh : List (List ℕ) → List ℕ → Type 0
Fresh names word = (t : List ℕ) × Quoted names t word

fresh_text : (names : List (List ℕ)) (inside : List ℕ) → AreSome inside → (more : List ℕ) × Fresh names (34 ∷ (inside ++ more))
fresh_text names inside are =
    let n = suc (longest names) in
    let cs : List ℕ = are.0 ++ many n in
    let t : List ℕ = encode_utf8_all cs in
    let long : longest names < length t = omega (arith, length-le-encodes cs, length-append are.0 (many n), many_length n) in
    let q : IsQuoted (34 ∷ (inside ++ (many n ++ 34 ∷ []))) t =
    record {
      inside = inside ++ many n;
      characters = cs;
      quoted = ap (λ (w : List ℕ). 34 ∷ w) (sym (append_assoc inside (many n) (34 ∷ [])));
      stands_for =
          append_chars are.1 (many_chars n);
      encoded = refl;
    } in
    (many n ++ 34 ∷ [], (t, (q, too_long t names long)))

-- a text from nothing
pub some_text : (names : List (List ℕ)) → (word : List ℕ) × Fresh names word
some_text names =
    let f = fresh_text names [] ([], no_char) in
    (34 ∷ f.0, f.1)

pub quoted_opens : (names : List (List ℕ)) (bytes : List ℕ) (k : ℕ) → quoted_at names bytes ≡ Err k → Opens (Fresh names) bytes k
unfolding quoted_at
quoted_opens names bytes k e =
    let rest = drop 1 bytes in
    let then : List ℕ × List ℕ → Read (List ℕ) = λ x. cond (list_any (bytes_eq x.0) names) (stop x.1) (Ok (x.0, drop 1 x.1)) in
    let text = some_text names in
    elim (chosen (eqb (first bytes) 34) (chars_at (length rest) [] rest >>= then) (stop bytes) (failed k) e) [
      | inl c ↦ at_bytes (Fresh names) bytes (34 ∷ rest) k (begins bytes 34 (omega arith) (eqb-true _ _ c.0))
          (behind_byte (Fresh names) 34 rest k (elim (bind_err (chars_at (length rest) [] rest) then k c.1) [
            | inl f ↦ mapped AreSome (λ w. Fresh names (34 ∷ w)) rest k (chars_opens (length rest) [] rest k f) (fresh_text names)
            | inr x ↦
                let s = chars_sound (length rest) [] rest x.0 x.1 in
                let f = fresh_text names s.inside (s.characters, s.are) in
                elim (chosen (list_any (bytes_eq x.0.0) names) (stop x.0.1) (Ok (x.0.0, drop 1 x.0.1)) (failed k) x.2) [
                  | inl d ↦ record {
                    front = s.inside;
                    rest = x.0.1;
                    more = f.0;
                    parts = s.parts;
                    left = err_is (length x.0.1) k d.1;
                    is = f.1;
                  }
                  | inr d ↦ absurd (no_err (x.0.0, drop 1 x.0.1) k d.1)
                ]
          ]))
      | inr c ↦ at_once (Fresh names) bytes k text.0 (err_is (length bytes) k c.1) text.1
    ]
