-- Texts between quotes: what is spelled is read, whatever may follow, and what is read is spelled so.
use Rattle.std.proofs.Common.{◌≡◌, ℕ, zero, suc, ◌+◌, ◌-◌, ◌<◌, false, cond, eqb, List, [], ◌∷◌, ◌++◌, length, drop, Option, Some, None, Ok}
use Rattle.std.proofs.Common.{Err, refl, sym, ap, subst, ◌∙◌, append_assoc, arith, inl, inr}
use Rattle.std.specs.Prelude.{encode_utf8_all}
use Rattle.std.specs.Char.{encode_utf8}
use Rattle.std.specs.List.{list_any}
use Rattle.std.specs.Str.{bytes_eq}
use Rattle.std.proofs.lemmas.Bool.{cond-true, cond-false, eqb-true, eq-eqb, ne_eqb}
use Rattle.std.proofs.lemmas.List.{append-nil, length-append}
use Rattle.text_kit.specs.Answer.{IsFault}
use Rattle.json_exact.specs.Reading.{IsQuoted, AreChars, no_char, more_chars}
use Rattle.fixed_num.specs.Steps.{◌>>=◌}
use Rattle.fixed_num.specs.Front.{Read, first, stop}
use Rattle.json_exact.specs.inner.Reader.{char_at, chars_at, quoted_at}
use Rattle.fixed_num.proofs.Steps.{bind_ok, chosen, guarded, unless, done, ok_is, Sound, Sound-at, begins}
use Rattle.json_exact.proofs.Letters.{char_again, char_some}
use Rattle.json_exact.proofs.Escapes.{char_sound}

-- ---- one step

pub chars_end : (fuel : ℕ) (out bytes : List ℕ) → first bytes ≡ 34 → 0 < fuel → chars_at fuel out bytes ≡ Ok (out, bytes)
unfolding chars_at
chars_end zero out bytes e lt = absurd (omega arith)
chars_end (suc fuel) out bytes e lt =
    cond-true (eqb (first bytes) 34) (Ok (out, bytes)) (char_at bytes >>= λ x. chars_at fuel (out ++ encode_utf8 x.0) x.1) (eq-eqb _ _ e)

pub chars_more : (fuel next : ℕ) (out bytes rest : List ℕ) (c : ℕ) → (first bytes ≡ 34 → ⊥) → fuel ≡ next + 1 → char_at bytes ≡ Ok (c, rest)
    → chars_at fuel out bytes ≡ chars_at next (out ++ encode_utf8 c) rest
unfolding chars_at
chars_more zero next out bytes rest c other n e = absurd (omega arith)
chars_more (suc fuel) next out bytes rest c other n e =
    let same : fuel ≡ next = omega arith in
    cond-false (eqb (first bytes) 34) (Ok (out, bytes)) (char_at bytes >>= λ x. chars_at fuel (out ++ encode_utf8 x.0) x.1)
    (ne_eqb _ _ other) ∙ rw (e, same) refl

pub chars_stop : (fuel : ℕ) (out bytes : List ℕ) (k : ℕ) → (first bytes ≡ 34 → ⊥) → 0 < fuel → char_at bytes ≡ Err k
    → chars_at fuel out bytes ≡ Err k
unfolding chars_at
chars_stop zero out bytes k other lt e = absurd (omega arith)
chars_stop (suc fuel) out bytes k other lt e =
    cond-false (eqb (first bytes) 34) (Ok (out, bytes)) (char_at bytes >>= λ x. chars_at fuel (out ++ encode_utf8 x.0) x.1)
    (ne_eqb _ _ other) ∙ rw e refl

pub chars_fault : (fuel : ℕ) (out bytes : List ℕ) (fault : Option ℕ) → (first bytes ≡ 34 → ⊥) → 0 < fuel → IsFault fault (char_at bytes)
    → IsFault fault (chars_at fuel out bytes)
chars_fault fuel out bytes None other lt e = tt
chars_fault fuel out bytes (Some k) other lt e = chars_stop fuel out bytes k other lt e

pub chars_none : (fuel : ℕ) (out bytes : List ℕ) → fuel ≡ 0 → chars_at fuel out bytes ≡ Err (length bytes)
unfolding chars_at
chars_none zero out bytes e = refl
chars_none (suc fuel) out bytes e = absurd (omega arith)

-- ---- what is spelled is read

nothing_more : (out bytes : List ℕ) → done {A = List ℕ × List ℕ} (out, bytes) ≡ done {A = List ℕ × List ℕ} (out ++ [], bytes)
nothing_more out bytes = ap (λ (t : List ℕ). done {A = List ℕ × List ℕ} (t, bytes)) (sym (append-nil out))

pub chars_again : {inside cs : List ℕ} → AreChars inside cs → (fuel : ℕ) (out rest : List ℕ) → length inside < fuel → first rest ≡ 34
    → chars_at fuel out (inside ++ rest) ≡ Ok (out ++ encode_utf8_all cs, rest)
chars_again no_char fuel out rest lt e = chars_end fuel out rest e (omega arith) ∙ nothing_more out rest
chars_again (more_chars front back c cs i r) fuel out rest lt e =
    let k = char_again i (back ++ rest) in
    let some = char_some front c i in
    let len = length-append front back in
    let step : chars_at fuel out (front ++ (back ++ rest)) ≡ chars_at (fuel - 1) (out ++ encode_utf8 c) (back ++ rest) =
    chars_more fuel (fuel - 1) out (front ++ (back ++ rest)) (back ++ rest) c k.no_quote (omega arith) k.read in
    ap (chars_at fuel out) (append_assoc front back rest) ∙ step ∙ chars_again r (fuel - 1) (out ++ encode_utf8 c) rest (omega arith) e
    ∙ ap (λ (t : List ℕ). done {A = List ℕ × List ℕ} (t, rest)) (append_assoc out (encode_utf8 c) (encode_utf8_all cs))

pub quoted_again : (names : List (List ℕ)) (t word rest : List ℕ) → IsQuoted word t → list_any (bytes_eq t) names ≡ false
    → quoted_at names (word ++ rest) ≡ Ok (t, rest)
unfolding quoted_at
quoted_again names t word rest q fresh =
    let bytes : List ℕ = q.inside ++ (34 ∷ rest) in
    let whole : word ++ rest ≡ 34 ∷ bytes =
    ap (λ (w : List ℕ). w ++ rest) q.quoted ∙ ap (λ (w : List ℕ). 34 ∷ w) (append_assoc q.inside (34 ∷ []) rest) in
    let read : chars_at (length bytes) [] bytes ≡ Ok (t, 34 ∷ rest) =
    chars_again q.stands_for (length bytes) [] (34 ∷ rest) (omega (arith, length-append q.inside (34 ∷ rest))) refl
    ∙ ap (λ (w : List ℕ). done {A = List ℕ × List ℕ} (w, 34 ∷ rest)) (sym q.encoded) in
    rw (whole, read, fresh) refl

-- ---- what is read is spelled so

pub record CharsAre (out bytes : List ℕ) (x : List ℕ × List ℕ) : Type 0 where
  pub inside : List ℕ
  pub characters : List ℕ
  pub parts : bytes ≡ inside ++ x.1
  pub are : AreChars inside characters
  pub encoded : x.0 ≡ out ++ encode_utf8_all characters
  pub quote : first x.1 ≡ 34

pub chars_sound : (fuel : ℕ) (out bytes : List ℕ) (x : List ℕ × List ℕ) → chars_at fuel out bytes ≡ Ok x → CharsAre out bytes x
unfolding chars_at
chars_sound zero out bytes x e = absurd cc
chars_sound (suc fuel) out bytes x e =
    let then : ℕ × List ℕ → Read (List ℕ) = λ y. chars_at fuel (out ++ encode_utf8 y.0) y.1 in
    elim (chosen (eqb (first bytes) 34) (Ok (out, bytes)) (char_at bytes >>= then) (Ok x) e) [
      | inl c ↦ subst (λ (y : List ℕ × List ℕ). CharsAre out bytes y) (ok_is (out, bytes) x c.1) (record {
        inside = [];
        characters = [];
        parts = refl;
        are = no_char;
        encoded = sym (append-nil out);
        quote = eqb-true _ _ c.0;
      })
      | inr c ↦
          let b = bind_ok (char_at bytes) then x c.1 in
          let s = char_sound bytes b.0 b.1 in
          let k = chars_sound fuel (out ++ encode_utf8 b.0.0) b.0.1 x b.2 in
          record {
            inside = s.word ++ k.inside;
            characters = b.0.0 ∷ k.characters;
            parts = s.parts ∙ ap (λ (w : List ℕ). s.word ++ w) k.parts ∙ sym (append_assoc s.word k.inside x.1);
            are = more_chars s.word k.inside b.0.0 k.characters s.is k.are;
            encoded = k.encoded ∙ append_assoc out (encode_utf8 b.0.0) (encode_utf8_all k.characters);
            quote = k.quote;
          }
    ]

abbrev pub Quoted : List (List ℕ) → List ℕ → List ℕ → Type 0
Quoted names t word = IsQuoted word t × (list_any (bytes_eq t) names ≡ false)

pub quoted_sound : (names : List (List ℕ)) → Sound (Quoted names) (quoted_at names)
unfolding quoted_at
quoted_sound names bytes x e =
    let rest = drop 1 bytes in
    let then : List ℕ × List ℕ → Read (List ℕ) = λ y. cond (list_any (bytes_eq y.0) names) (stop y.1) (Ok (y.0, drop 1 y.1)) in
    let g = guarded (eqb (first bytes) 34) (length bytes) (chars_at (length rest) [] rest >>= then) x e in
    let b = bind_ok (chars_at (length rest) [] rest) then x g.1 in
    let k = chars_sound (length rest) [] rest b.0 b.1 in
    let u = unless (list_any (bytes_eq b.0.0) names) (length b.0.1) (Ok (b.0.0, drop 1 b.0.1)) x b.2 in
    let quote : b.0.1 ≡ 34 ∷ drop 1 b.0.1 = begins b.0.1 34 (omega arith) k.quote in
    let parts : bytes ≡ (34 ∷ k.inside ++ 34 ∷ []) ++ drop 1 b.0.1 =
    begins bytes 34 (omega arith) (eqb-true _ _ g.0) ∙ ap (λ (w : List ℕ). 34 ∷ w) (k.parts ∙ ap (λ (w : List ℕ). k.inside ++ w) quote
    ∙ sym (append_assoc k.inside (34 ∷ []) (drop 1 b.0.1))) in
    Sound-at (Quoted names) bytes (b.0.0, drop 1 b.0.1) x (ok_is (b.0.0, drop 1 b.0.1) x u.1) (record {
      word = 34 ∷ k.inside ++ 34 ∷ [];
      parts = parts;
      is = (
        record {
          inside = k.inside;
          characters = k.characters;
          quoted = refl;
          stands_for = k.are;
          encoded = k.encoded;
        },
        u.0,
      );
    })
