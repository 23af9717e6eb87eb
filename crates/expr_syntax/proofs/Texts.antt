-- Texts between quotes.
use Rattle.std.proofs.Common.{◌≡◌, ◌≢◌, ℕ, ◌+◌, ◌<◌, ◌≤◌, Bool, true, false, cond, eqb, List, [], ◌∷◌, ◌++◌, get_or, suc, append_assoc}
use Rattle.std.proofs.Common.{append-nil, length-append, get_or-drop, add-zero, length, drop, Ok, Err, Option, Some, None, refl, sym, ap}
use Rattle.std.proofs.Common.{subst, ◌∙◌, arith, inl, inr}
use Rattle.std.proofs.lemmas.Bool.{cond-true, eqb-true, eqb-false, ne_eqb, eq-eqb, cases_lt, false≢true}
use Rattle.std.specs.Prelude.{encode_utf8}
use Rattle.std.proofs.lemmas.Str.{inside_one, length-encode, drop_past_char, encode_ascii, char_from_byte, IsCharBoundary-after_ascii}
use Rattle.std.specs.Str.{IsUtf8, IsCharBoundary}
use Rattle.std.proofs.lemmas.Bool.Decides.{nat_tests}
use Rattle.std.proofs.lemmas.List.{nil_from_length}
use Rattle.expr_syntax.specs.Tokens.{unescape, Means, nothing, itself, escape}
use Rattle.expr_syntax.specs.inner.Scanner.{Read, with_byte, with_escape, inside_at, is_quote}
use Rattle.fixed_num.proofs.Steps.{chosen}
use Rattle.expr_syntax.proofs.Steps.{ok_is}

-- ---- what is read means so

-- the text stands before a quote
pub record Stands (quote : ℕ) (bytes text rest : List ℕ) : Type 0 where
  pub inside : List ℕ
  pub parts : bytes ≡ inside ++ quote ∷ rest
  pub means : Means quote inside text

with_byte-ok : (b : ℕ) (r : Read (List ℕ)) (x : List ℕ × List ℕ) → with_byte b r ≡ Ok x
    → (y : List ℕ × List ℕ) × (r ≡ Ok y) × (x ≡ (b ∷ y.0, y.1))
with_byte-ok b (Ok y) x e = (y, refl, cc)
with_byte-ok b (Err k) x e = absurd cc

with_escape-ok : (o : Option ℕ) (r : Read (List ℕ)) (x : List ℕ × List ℕ) → with_escape o r ≡ Ok x
    → (b : ℕ) × (o ≡ Some b) × (with_byte b r ≡ Ok x)
with_escape-ok None r x e = absurd cc
with_escape-ok (Some b) r x e = (b, refl, e)

-- a `\` before the bytes where the flag is set
abbrev shown : Bool → List ℕ → List ℕ
shown true bytes = 92 ∷ bytes
shown false bytes = bytes

Stands-at : (quote : ℕ) (bytes : List ℕ) (x y : List ℕ × List ℕ) → x ≡ y → Stands quote bytes x.0 x.1 → Stands quote bytes y.0 y.1
Stands-at quote bytes x y e s = subst (λ (z : List ℕ × List ℕ). Stands quote bytes z.0 z.1) e s

inside_sound : (quote : ℕ) (escaped : Bool) (bytes : List ℕ) (x : List ℕ × List ℕ) → inside_at quote escaped bytes ≡ Ok x
    → Stands quote (shown escaped bytes) x.0 x.1
unfolding inside_at
inside_sound quote true [] x e = absurd cc
inside_sound quote false [] x e = absurd cc
inside_sound quote true (letter ∷ bytes) x e =
    let a = with_escape-ok (unescape letter) (inside_at quote false bytes) x e in
    let b = with_byte-ok a.0 (inside_at quote false bytes) x a.2 in
    let s = inside_sound quote false bytes b.0 b.1 in
    Stands-at quote (92 ∷ letter ∷ bytes) (a.0 ∷ b.0.0, b.0.1) x (sym b.2)
    (record {
      inside = 92 ∷ letter ∷ s.inside;
      parts = ap (λ (t : List ℕ). 92 ∷ letter ∷ t) s.parts;
      means = escape letter a.0 s.inside b.0.0 a.1 s.means;
    })
inside_sound quote false (b ∷ bytes) x e =
    elim (chosen (eqb b quote) (Ok ([], bytes)) (cond (eqb b 92) (inside_at quote true bytes) (with_byte b (inside_at quote false bytes)))
    (Ok x) e) [
      | inl c ↦ Stands-at quote (b ∷ bytes) ([], bytes) x (ok_is ([], bytes) x c.1)
          (record { inside = []; parts = ap (λ (k : ℕ). k ∷ bytes) (eqb-true b quote c.0); means = nothing })
      | inr c ↦ elim (chosen (eqb b 92) (inside_at quote true bytes) (with_byte b (inside_at quote false bytes)) (Ok x) c.1) [
        | inl d ↦ subst (λ (k : ℕ). Stands quote (k ∷ bytes) x.0 x.1) (sym (eqb-true b 92 d.0)) (inside_sound quote true bytes x d.1)
        | inr d ↦
            let y = with_byte-ok b (inside_at quote false bytes) x d.1 in
            let s = inside_sound quote false bytes y.0 y.1 in
            Stands-at quote (b ∷ bytes) (b ∷ y.0.0, y.0.1) x (sym y.2)
            (record {
              inside = b ∷ s.inside;
              parts = ap (λ (t : List ℕ). b ∷ t) s.parts;
              means = itself b s.inside y.0.0 (eqb-false b quote c.0) (eqb-false b 92 d.0) s.means;
            })
      ]
    ]

pub text_sound : (quote : ℕ) (bytes : List ℕ) (x : List ℕ × List ℕ) → inside_at quote false bytes ≡ Ok x → Stands quote bytes x.0 x.1
text_sound quote bytes x e = inside_sound quote false bytes x e

-- ---- what means so is read

at_quote : (quote : ℕ) (rest : List ℕ) → inside_at quote false (quote ∷ rest) ≡ Ok ([], rest)
unfolding inside_at
at_quote quote rest = cond-true (eqb quote quote) (Ok ([], rest)) _ (eq-eqb quote quote refl)

at_byte : (quote b : ℕ) (rest : List ℕ) → b ≢ quote → b ≢ 92 → inside_at quote false (b ∷ rest) ≡ with_byte b (inside_at quote false rest)
unfolding inside_at
at_byte quote b rest q s = rw (ne_eqb b quote q, ne_eqb b 92 s) refl

at_escape : (quote letter b : ℕ) (rest : List ℕ) → 92 ≢ quote → unescape letter ≡ Some b
    → inside_at quote false (92 ∷ letter ∷ rest) ≡ with_byte b (inside_at quote false rest)
unfolding inside_at
at_escape quote letter b rest q e = rw (ne_eqb 92 quote q) (ap (λ (o : Option ℕ). with_escape o (inside_at quote false rest)) e)

pub text_again : (quote : ℕ) (rest : List ℕ) {inside text : List ℕ} → 92 ≢ quote → Means quote inside text
    → inside_at quote false (inside ++ quote ∷ rest) ≡ Ok (text, rest)
text_again quote rest q nothing = at_quote quote rest
text_again quote rest q (itself b inside text n s m) =
    at_byte quote b (inside ++ quote ∷ rest) n s ∙ ap (with_byte b) (text_again quote rest q m)
text_again quote rest q (escape letter b inside text e m) =
    at_escape quote letter b (inside ++ quote ∷ rest) q e ∙ ap (with_byte b) (text_again quote rest q m)

-- ---- character by character

-- more bytes before a text
abbrev pub with_bytes : List ℕ → Read (List ℕ) → Read (List ℕ)
with_bytes front (Ok x) = Ok (front ++ x.0, x.1)
with_bytes front (Err e) = Err e

with_bytes-byte : (front : List ℕ) (b : ℕ) (r : Read (List ℕ)) → with_bytes front (with_byte b r) ≡ with_bytes (front ++ b ∷ []) r
with_bytes-byte front b (Ok x) = ap (λ (t : List ℕ). Ok (t, x.1)) (sym (append_assoc front (b ∷ []) x.0))
with_bytes-byte front b (Err e) = refl

with_bytes-both : (front back : List ℕ) (r : Read (List ℕ)) → with_bytes front (with_bytes back r) ≡ with_bytes (front ++ back) r
with_bytes-both front back (Ok x) = ap (λ (t : List ℕ). Ok (t, x.1)) (sym (append_assoc front back x.0))
with_bytes-both front back (Err e) = refl

with_bytes-cons : (b : ℕ) (bs : List ℕ) (r : Read (List ℕ)) → with_byte b (with_bytes bs r) ≡ with_bytes (b ∷ bs) r
with_bytes-cons b bs (Ok x) = refl
with_bytes-cons b bs (Err e) = refl

with_no_bytes : (r : Read (List ℕ)) → with_bytes [] r ≡ r
with_no_bytes (Ok x) = refl
with_no_bytes (Err e) = refl

over_bytes : (quote : ℕ) (bs rest : List ℕ) → ((k : ℕ) → k < length bs → (get_or bs k 0 ≢ quote) × (get_or bs k 0 ≢ 92))
    → inside_at quote false (bs ++ rest) ≡ with_bytes bs (inside_at quote false rest)
over_bytes quote [] rest all = sym (with_no_bytes (inside_at quote false rest))
over_bytes quote (b ∷ bs) rest all =
    let here = all 0 (omega arith) in
    at_byte quote b (bs ++ rest) here.0 here.1 ∙ ap (with_byte b) (over_bytes quote bs rest (λ k l. all (suc k) (omega arith)))
    ∙ with_bytes-cons b bs (inside_at quote false rest)

-- a character that is neither the quote nor `\` has no such byte
over_char : (quote c : ℕ) (rest : List ℕ) → quote < 128 → c ≢ quote → c ≢ 92
    → inside_at quote false (encode_utf8 c ++ rest) ≡ with_bytes (encode_utf8 c) (inside_at quote false rest)
over_char quote c rest q n s = over_bytes quote (encode_utf8 c) rest (λ k l. (
  λ e. n (inside_one c [] (encode_utf8 c) k (sym (append-nil (encode_utf8 c))) l (omega arith) ∙ e),
  λ e. s (inside_one c [] (encode_utf8 c) k (sym (append-nil (encode_utf8 c))) l (omega arith) ∙ e),
))

-- ---- so far

-- what is read of a text so far, the bytes that are left and where they begin
pub record Reached (quote : ℕ) (text out : List ℕ) (escaped : Bool) (rest : List ℕ) (place : ℕ) : Type 0 where
  pub same : with_bytes out (inside_at quote escaped rest) ≡ inside_at quote false text
  pub here : drop place text ≡ rest
  pub within : place + length rest ≡ length text

pub reached_start : (quote : ℕ) (text : List ℕ) → Reached quote text [] false text 0
reached_start quote text = record { same = with_no_bytes (inside_at quote false text); here = refl; within = omega arith }

-- a character further
module _ (quote : ℕ) (text out : List ℕ) (escaped : Bool) (rest after : List ℕ) (place c : ℕ)
    (r : Reached quote text out escaped rest place) (parts : rest ≡ encode_utf8 c ++ after) where
  next_here : drop (place + length (encode_utf8 c)) text ≡ after
  next_here = ap (λ (n : ℕ). drop (place + n) text) (length-encode c) ∙ drop_past_char text after place c (r.here ∙ parts)

  next_within : place + length (encode_utf8 c) + length after ≡ length text
  next_within = omega (arith, r.within, ap length parts, length-append (encode_utf8 c) after)

ascii_escape : (c b : ℕ) → unescape c ≡ Some b → (c < 128) × (b < 128)
ascii_escape c b e = grind (arith, nat_tests)

high_escape : (c : ℕ) → 128 ≤ c → unescape c ≡ None
high_escape c l = grind (arith, nat_tests)

at_letter : (quote b : ℕ) (rest : List ℕ) → inside_at quote true (b ∷ rest) ≡ with_escape (unescape b) (inside_at quote false rest)
unfolding inside_at
at_letter quote b rest = refl

at_backslash : (quote : ℕ) (rest : List ℕ) → 92 ≢ quote → inside_at quote false (92 ∷ rest) ≡ inside_at quote true rest
unfolding inside_at
at_backslash quote rest q = rw (ne_eqb 92 quote q) refl

at_nothing : (quote : ℕ) (escaped : Bool) → inside_at quote escaped [] ≡ Err tt
unfolding inside_at
at_nothing quote true = refl
at_nothing quote false = refl

one_char : (c : ℕ) (rest after : List ℕ) → c < 128 → rest ≡ encode_utf8 c ++ after → rest ≡ c ∷ after
one_char c rest after l e = e ∙ ap (λ (t : List ℕ). t ++ after) (encode_ascii c l)

-- behind a `\`
pub reached_escape : (quote : ℕ) (text out rest after : List ℕ) (place c b : ℕ) → Reached quote text out true rest place
    → rest ≡ encode_utf8 c ++ after → unescape c ≡ Some b
    → Reached quote text (out ++ encode_utf8 b) false after (place + length (encode_utf8 c))
reached_escape quote text out rest after place c b r parts e =
    let low = ascii_escape c b e in
    let read : inside_at quote true rest ≡ with_byte b (inside_at quote false after) =
    ap (inside_at quote true) (one_char c rest after low.0 parts) ∙ at_letter quote c after
    ∙ ap (λ (o : Option ℕ). with_escape o (inside_at quote false after)) e in
    record {
      same =
          ap (λ (t : List ℕ). with_bytes (out ++ t) (inside_at quote false after)) (encode_ascii b low.1)
          ∙ sym (with_bytes-byte out b (inside_at quote false after)) ∙ ap (with_bytes out) (sym read) ∙ r.same;
      here = next_here quote text out true rest after place c r parts;
      within = next_within quote text out true rest after place c r parts;
    }

no_letter : (b : ℕ) (c : ℕ) (bytes after : List ℕ) → b ∷ bytes ≡ encode_utf8 c ++ after → unescape c ≡ None → unescape b ≡ None
no_letter b c bytes after parts e = elim (cases_lt b 128) [
  | inl l ↦ ap unescape (sym (char_from_byte (b ∷ bytes) after c parts l (omega arith))) ∙ e
  | inr l ↦ high_escape b l
]

fault_at : (quote c : ℕ) (rest after : List ℕ) → rest ≡ encode_utf8 c ++ after → unescape c ≡ None → inside_at quote true rest ≡ Err tt
fault_at quote c [] after parts e = at_nothing quote true
fault_at quote c (b ∷ rest) after parts e =
    at_letter quote b rest ∙ ap (λ (o : Option ℕ). with_escape o (inside_at quote false rest)) (no_letter b c rest after parts e)

pub reached_fault : (quote : ℕ) (text out rest after : List ℕ) (place c : ℕ) → Reached quote text out true rest place
    → rest ≡ encode_utf8 c ++ after → unescape c ≡ None → inside_at quote false text ≡ Err tt
reached_fault quote text out rest after place c r parts e = sym r.same ∙ ap (with_bytes out) (fault_at quote c rest after parts e)

-- at the quote
pub reached_quote : (quote : ℕ) (text out rest after : List ℕ) (place : ℕ) → quote < 128 → Reached quote text out false rest place
    → rest ≡ encode_utf8 quote ++ after → inside_at quote false text ≡ Ok (out, drop (place + 1) text)
reached_quote quote text out rest after place low r parts =
    let left : drop (place + 1) text ≡ after =
    ap (λ (n : ℕ). drop (place + n) text) (sym (ap length (encode_ascii quote low)))
    ∙ next_here quote text out false rest after place quote r parts in
    sym r.same ∙ ap (λ (t : List ℕ). with_bytes out (inside_at quote false t)) (one_char quote rest after low parts)
    ∙ ap (with_bytes out) (at_quote quote after) ∙ ap (λ (t : List ℕ). Ok (t, after)) (append-nil out)
    ∙ ap (λ (t : List ℕ). Ok (out, t)) (sym left)

-- at a `\`
pub reached_backslash : (quote : ℕ) (text out rest after : List ℕ) (place : ℕ) → 92 ≢ quote → Reached quote text out false rest place
    → rest ≡ encode_utf8 92 ++ after → Reached quote text out true after (place + length (encode_utf8 92))
reached_backslash quote text out rest after place q r parts = record {
  same =
      ap (with_bytes out) (sym (at_backslash quote after q))
      ∙ ap (λ (t : List ℕ). with_bytes out (inside_at quote false t)) (sym (one_char 92 rest after (omega arith) parts)) ∙ r.same;
  here = next_here quote text out false rest after place 92 r parts;
  within = next_within quote text out false rest after place 92 r parts;
}

-- at any other character
pub reached_char : (quote : ℕ) (text out rest after : List ℕ) (place c : ℕ) → quote < 128 → c ≢ quote → c ≢ 92
    → Reached quote text out false rest place → rest ≡ encode_utf8 c ++ after
    → Reached quote text (out ++ encode_utf8 c) false after (place + length (encode_utf8 c))
reached_char quote text out rest after place c low q s r parts = record {
  same =
      sym (with_bytes-both out (encode_utf8 c) (inside_at quote false after)) ∙ ap (with_bytes out) (sym (over_char quote c after low q s))
      ∙ ap (λ (t : List ℕ). with_bytes out (inside_at quote false t)) (sym parts) ∙ r.same;
  here = next_here quote text out false rest after place c r parts;
  within = next_within quote text out false rest after place c r parts;
}

-- at the end
pub reached_end : (quote : ℕ) (text out rest : List ℕ) (escaped : Bool) (place : ℕ) → Reached quote text out escaped rest place
    → length rest ≡ 0 → inside_at quote false text ≡ Err tt
reached_end quote text out rest escaped place r none =
    sym r.same ∙ ap (λ (t : List ℕ). with_bytes out (inside_at quote escaped t)) (nil_from_length rest none)
    ∙ ap (with_bytes out) (at_nothing quote escaped)

-- a text may be cut behind the quote
pub cut_behind_quote : (quote : ℕ) (text out rest after : List ℕ) (place : ℕ) → IsUtf8 text → quote < 128
    → Reached quote text out false rest place → rest ≡ encode_utf8 quote ++ after → IsCharBoundary text (place + 1)
cut_behind_quote quote text out rest after place u low r parts =
    let there : drop place text ≡ quote ∷ after = r.here ∙ one_char quote rest after low parts in
    let within : place < length text = omega (arith, r.within, ap length (one_char quote rest after low parts)) in
    let byte : get_or text place 0 ≡ quote =
    ap (λ (n : ℕ). get_or text n 0) (sym (add-zero place)) ∙ sym (get_or-drop place text 0 0)
    ∙ ap (λ (t : List ℕ). get_or t 0 0) there in
    IsCharBoundary-after_ascii text place u within (omega (arith, byte))

-- the same at equal places
pub Reached-at : (quote : ℕ) (text : List ℕ) (out out' : List ℕ) (escaped escaped' : Bool) (rest rest' : List ℕ) (place place' : ℕ)
    → out ≡ out' → escaped ≡ escaped' → rest ≡ rest' → place ≡ place' → Reached quote text out escaped rest place
    → Reached quote text out' escaped' rest' place'
Reached-at quote text out out' escaped escaped' rest rest' place place' o e r p h =
    subst (λ (x : ℕ). Reached quote text out' escaped' rest' x) p
    (subst (λ (x : List ℕ). Reached quote text out' escaped' x place) r
    (subst (λ (x : Bool). Reached quote text out' x rest place) e
    (subst (λ (x : List ℕ). Reached quote text x escaped rest place) o h)))

pub quote_ascii : (quote : ℕ) → is_quote quote ≡ true → quote < 128
quote_ascii quote e = grind (arith, nat_tests)

pub quote_no_escape : (quote : ℕ) → is_quote quote ≡ true → 92 ≢ quote
quote_no_escape quote e same = absurd (false≢true (ap is_quote same ∙ e))

-- a text may be cut behind a quote at its front
pub cut_behind_first : (quote : ℕ) (text : List ℕ) → IsUtf8 text → is_quote quote ≡ true → get_or text 0 0 ≡ quote → IsCharBoundary text 1
cut_behind_first quote [] u q e = absurd (false≢true (ap is_quote e ∙ q))
cut_behind_first quote (b ∷ text) u q e = IsCharBoundary-after_ascii (b ∷ text) 0 u (omega arith) (omega (arith, quote_ascii quote q, e))
