-- Texts, numbers, lists and objects look no further than the first byte that is left.
use Rattle.std.proofs.Common.{◌≡◌, ℕ, zero, suc, ◌+◌, ◌<◌, ◌≤◌, Bool, true, false, cond, eqb, List, [], ◌∷◌, ◌++◌, length, drop, Option}
use Rattle.std.proofs.Common.{Some, None, Ok, Err, refl, sym, ap, subst, ◌∙◌, append_assoc, arith, inl, inr}
use Rattle.std.specs.List.{list_any}
use Rattle.std.specs.Str.{bytes_eq}
use Rattle.std.specs.Char.{encode_utf8}
use Rattle.std.proofs.lemmas.Bool.{cases_Bool, cond-true, cond-false, eqb-true, eqb-false, eq-eqb, ne_eqb}
use Rattle.std.proofs.lemmas.List.{length-append}
use Rattle.fixed_num.specs.Steps.{◌>>=◌}
use Rattle.fixed_num.specs.Front.{Read, first, stop}
use Rattle.json_exact.specs.inner.Reader.{plain_at, char_at, chars_at, quoted_at}
use Rattle.json_exact.proofs.Letters.{char_some}
use Rattle.json_exact.proofs.Escapes.{char_sound}
use Rattle.json_exact.proofs.Quotes.{chars_sound}
use Rattle.json_exact.proofs.Causal.{outcome, Causal, same_first, stops, finds, binds, takes, same_reader, char}

-- ---- readers with fuel, which is enough where there is some for each byte

pub record LooksFueled {A : Type 0} (element : ℕ → List ℕ → Read A) (bytes : List ℕ) : Type 0 where
  pub front : List ℕ
  pub rest : List ℕ
  pub found : Option A
  pub parts : bytes ≡ front ++ rest
  pub again : (fuel : ℕ) (other : List ℕ) → first other ≡ first rest → length (front ++ other) ≤ fuel
      → element fuel (front ++ other) ≡ outcome found other

zero_byte : (bytes : List ℕ) → first bytes ≡ 0 → char_at bytes ≡ Err (length bytes)
unfolding char_at plain_at
zero_byte bytes e = rw e refl

pub some_first : (bytes : List ℕ) (b : ℕ) → first bytes ≡ b → 0 < b → 0 < length bytes
some_first [] b e some = absurd (omega arith)
some_first (c ∷ bytes) b e some = omega arith

chars_quote : (fuel : ℕ) (out other : List ℕ) → first other ≡ 34 → length other ≤ fuel → chars_at fuel out other ≡ Ok (out, other)
unfolding chars_at
chars_quote zero out other e le = absurd (omega (arith, some_first other 34 e (omega arith)))
chars_quote (suc fuel) out other e le =
    cond-true (eqb (first other) 34) (Ok (out, other)) (char_at other >>= λ x. chars_at fuel (out ++ encode_utf8 x.0) x.1) (eq-eqb _ _ e)

pub nil_is : (bytes : List ℕ) → length bytes ≤ 0 → bytes ≡ []
nil_is [] le = refl
nil_is (b ∷ bytes) le = absurd (omega arith)

abbrev failed : ℕ → Read (List ℕ)
failed n = Err n

chars_fault : (fuel : ℕ) (out bytes other : List ℕ) → (first bytes ≡ 34 → ⊥) → length other ≤ length bytes
    → char_at bytes ≡ Err (length other) → length bytes ≤ fuel → chars_at fuel out bytes ≡ Err (length other)
unfolding chars_at
chars_fault zero out bytes other differs shorter e le =
    let same : length bytes ≡ length other = omega arith in
    ap (λ (n : ℕ). failed n) same
chars_fault (suc fuel) out bytes other differs shorter e le =
    cond-false (eqb (first bytes) 34) (Ok (out, bytes)) (char_at bytes >>= λ x. chars_at fuel (out ++ encode_utf8 x.0) x.1)
    (ne_eqb _ _ differs) ∙ ap (λ r. r >>= λ x. chars_at fuel (out ++ encode_utf8 x.0) x.1) e

chars_go : (fuel : ℕ) (out bytes rest : List ℕ) (c : ℕ) → (first bytes ≡ 34 → ⊥) → char_at bytes ≡ Ok (c, rest) → length rest < length bytes
    → length bytes ≤ fuel → (less : ℕ) × (fuel ≡ suc less) × (chars_at fuel out bytes ≡ chars_at less (out ++ encode_utf8 c) rest)
unfolding chars_at
chars_go zero out bytes rest c differs e lt le = absurd (omega arith)
chars_go (suc fuel) out bytes rest c differs e lt le = (
  fuel,
  refl,
  cond-false (eqb (first bytes) 34) (Ok (out, bytes)) (char_at bytes >>= λ x. chars_at fuel (out ++ encode_utf8 x.0) x.1)
      (ne_eqb _ _ differs) ∙ ap (λ r. r >>= λ x. chars_at fuel (out ++ encode_utf8 x.0) x.1) e,
)

abbrev CharsLook : List ℕ → List ℕ → Type 0
CharsLook out bytes = LooksFueled (λ fuel. chars_at fuel out) bytes

-- behind a character
chars_next : (out bytes : List ℕ) → (first bytes ≡ 34 → ⊥) → (front rest : List ℕ) (found : Option ℕ) → bytes ≡ front ++ rest
    → ((other : List ℕ) → first other ≡ first rest → char_at (front ++ other) ≡ outcome found other)
    → ((c : ℕ) → length rest < length bytes → CharsLook (out ++ encode_utf8 c) rest) → CharsLook out bytes
chars_next out bytes differs front rest None parts again more = record {
  front = front;
  rest = rest;
  found = None;
  parts = parts;
  again = λ fuel other e le.
      let here : first (front ++ other) ≡ first bytes = same_first front other rest e ∙ ap first (sym parts) in
      chars_fault fuel out (front ++ other) other (λ same. differs (sym here ∙ same)) (omega (arith, length-append front other))
      (again other e) le;
}
chars_next out bytes differs front rest (Some c) parts again more =
    let read : char_at bytes ≡ Ok (c, rest) = ap char_at parts ∙ again rest refl in
    let s = char_sound bytes (c, rest) read in
    let some = char_some s.word c s.is in
    let whole : length bytes ≡ length s.word + length rest = ap length s.parts ∙ length-append s.word rest in
    let both : length bytes ≡ length front + length rest = ap length parts ∙ length-append front rest in
    let l = more c (omega arith) in
    record {
      front = front ++ l.front;
      rest = l.rest;
      found = l.found;
      parts = parts ∙ ap (λ (t : List ℕ). front ++ t) l.parts ∙ sym (append_assoc front l.front l.rest);
      again = λ fuel other e le.
          let same : first (l.front ++ other) ≡ first rest = same_first l.front other l.rest e ∙ ap first (sym l.parts) in
          let here : first (front ++ (l.front ++ other)) ≡ first bytes =
          same_first front (l.front ++ other) rest same ∙ ap first (sym parts) in
          let len = length-append front (l.front ++ other) in
          let fits : length (front ++ (l.front ++ other)) ≤ fuel =
          subst (λ (t : List ℕ). length t ≤ fuel) (append_assoc front l.front other) le in
          let g = chars_go fuel out (front ++ (l.front ++ other)) (l.front ++ other) c (λ quote. differs (sym here ∙ quote))
          (again (l.front ++ other) same) (omega arith) fits in
          ap (chars_at fuel out) (append_assoc front l.front other) ∙ g.2 ∙ l.again g.0 other e (omega (arith, g.1));
    }

chars_from : (out bytes : List ℕ) → ((c : ℕ) (rest : List ℕ) → length rest < length bytes → CharsLook (out ++ encode_utf8 c) rest)
    → CharsLook out bytes
chars_from out bytes more = elim (cases_Bool (eqb (first bytes) 34)) [
  | inl e ↦ record {
    front = [];
    rest = bytes;
    found = Some out;
    parts = refl;
    again = λ fuel other same fits. chars_quote fuel out other (same ∙ eqb-true _ _ e) fits;
  }
  | inr e ↦
      let l = char bytes in
      chars_next out bytes (eqb-false _ _ e) l.front l.rest l.found l.parts l.again (λ c lt. more c l.rest lt)
]

chars : (bound : ℕ) (out bytes : List ℕ) → length bytes ≤ bound → CharsLook out bytes
chars zero out bytes le = chars_from out bytes (λ c rest lt. absurd (omega arith))
chars (suc bound) out bytes le = chars_from out bytes (λ c rest lt. chars bound (out ++ encode_utf8 c) rest (omega arith))

pub unfueled : {A : Type 0} (element : ℕ → List ℕ → Read A) → ((bytes : List ℕ) → LooksFueled element bytes)
    → Causal (λ bytes. element (length bytes) bytes)
unfueled element look bytes =
    let l = look bytes in
    record {
      front = l.front;
      rest = l.rest;
      found = l.found;
      parts = l.parts;
      again = λ other e. l.again (length (l.front ++ other)) other e (omega arith);
    }

-- ---- texts

all_chars : Causal (λ bytes. chars_at (length bytes) [] bytes)
all_chars = unfueled (λ fuel. chars_at fuel []) (λ bytes. chars (length bytes) [] bytes (omega arith))

quote_behind : (fuel : ℕ) (out bytes : List ℕ) (x : List ℕ × List ℕ) → chars_at fuel out bytes ≡ Ok x → first x.1 ≡ 34
quote_behind fuel out bytes x e = (chars_sound fuel out bytes x e).quote

-- what stands behind the characters is a quote
either_stop : {A : Type 0} (b : Bool) (bytes : List ℕ) → cond b (stop {A = A} bytes) (stop bytes) ≡ stop bytes
either_stop true bytes = refl
either_stop false bytes = refl

ends_text : (names : List (List ℕ)) (t : List ℕ)
    → Causal (λ rest. cond (eqb (first rest) 34) (cond (list_any (bytes_eq t) names) (stop rest) (Ok (t, drop 1 rest))) (stop rest))
ends_text names t = elim (cases_Bool (list_any (bytes_eq t) names)) [
  | inl e ↦ same_reader (λ rest. stop rest)
      (λ rest. cond (eqb (first rest) 34) (cond (list_any (bytes_eq t) names) (stop rest) (Ok (t, drop 1 rest))) (stop rest))
      (λ rest. sym (ap (λ (b : Bool). cond (eqb (first rest) 34) (cond b (stop rest) (Ok (t, drop 1 rest))) (stop rest)) e
      ∙ either_stop (eqb (first rest) 34) rest)) stops
  | inr e ↦ same_reader (λ rest. cond (eqb (first rest) 34) (Ok (t, drop 1 rest)) (stop rest))
      (λ rest. cond (eqb (first rest) 34) (cond (list_any (bytes_eq t) names) (stop rest) (Ok (t, drop 1 rest))) (stop rest))
      (λ rest. sym (ap (λ (b : Bool). cond (eqb (first rest) 34) (cond b (stop rest) (Ok (t, drop 1 rest))) (stop rest)) e))
      (takes (λ b. eqb b 34) (λ b rest. Ok (t, rest)) (λ rest. stop rest) refl (λ b. finds t) stops)
]

abbrev after_chars : List (List ℕ) → List ℕ × List ℕ → Read (List ℕ)
after_chars names x = cond (list_any (bytes_eq x.0) names) (stop x.1) (Ok (x.0, drop 1 x.1))

abbrev after_quoted : List (List ℕ) → List ℕ × List ℕ → Read (List ℕ)
after_quoted names x = cond (eqb (first x.1) 34) (cond (list_any (bytes_eq x.0) names) (stop x.1) (Ok (x.0, drop 1 x.1))) (stop x.1)

quote_follows : (names : List (List ℕ)) (bytes : List ℕ) (r : Read (List ℕ)) → chars_at (length bytes) [] bytes ≡ r
    → (r >>= after_quoted names) ≡ (r >>= after_chars names)
quote_follows names bytes (Ok x) e =
    cond-true (eqb (first x.1) 34) (after_chars names x) (stop x.1) (eq-eqb _ _ (quote_behind (length bytes) [] bytes x e))
quote_follows names bytes (Err k) e = refl

pub quoted : (names : List (List ℕ)) → Causal (quoted_at names)
unfolding quoted_at
quoted names = takes (λ b. eqb b 34) (λ b rest. chars_at (length rest) [] rest >>= after_chars names) (λ bytes. stop bytes) refl
    (λ b. same_reader (λ rest. chars_at (length rest) [] rest >>= after_quoted names)
    (λ rest. chars_at (length rest) [] rest >>= after_chars names)
    (λ rest. quote_follows names rest (chars_at (length rest) [] rest) refl)
    (binds (λ rest. chars_at (length rest) [] rest) (λ t rest. after_quoted names (t, rest)) all_chars (ends_text names)))
    stops
