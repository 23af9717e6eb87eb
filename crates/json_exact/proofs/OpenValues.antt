-- What was read of a value before a fault can be completed.
use Rattle.std.proofs.Common.{◌≡◌, ℕ, zero, suc, ◌<◌, Bool, true, false, cond, eqb, List, [], ◌∷◌, ◌++◌, length, drop, Ok, Err, ℤ, pos}
use Rattle.std.proofs.Common.{refl, sym, ap, subst, ◌∙◌, append_assoc, arith, inl, inr, ◌||◌}
use Rattle.std.specs.Prelude.{codes}
use Rattle.std.specs.List.{AllByRecursion}
use Rattle.std.specs.Char.{is_ascii_digit}
use Rattle.std.specs.Fmt.{sign_text}
use Rattle.std.proofs.lemmas.Bool.{eqb-true}
use Rattle.std.proofs.lemmas.List.{append-nil}
use Rattle.fixed_num.specs.Number.{signed}
use Rattle.fixed_num.specs.JsonNumber as numbers
use Rattle.fixed_num.specs.JsonNumber.{Parts, IsWhole, AreDigits, IsExponent, fraction_text, number_of, decimal_value}
use Rattle.json_exact.specs.declared.json.Json.{Json}
use Rattle.json_exact.specs.declared.json.Json.TheVariants as json
use Rattle.json_exact.specs.declared.json.Member.{Member}
use Rattle.json_exact.specs.Reading.{IsWhite, Spells, SpellsPadded, SpellsMember, null, yes, no, text, list, object, padded, member, Reads}
use Rattle.fixed_num.specs.Steps.{◌>>=◌}
use Rattle.fixed_num.specs.Front.{Read, first, stop, leading_digits, after_digits, digits_at, whole_at, fraction_at, is_mark, after_sign}
use Rattle.fixed_num.specs.Front.{signed_at, exponent_at, after_minus, parts_at}
use Rattle.json_exact.specs.inner.Reader.{skip_white, padded_at, after_word, word_at, quoted_at, number_tree, number_at, run_at}
use Rattle.json_exact.specs.inner.Reader.{sequence_at, names_of, member_at, list_at, object_at, nested_at, flat_at, value_from, value_at}
use Rattle.json_exact.specs.inner.Reader.{text_at}
use Rattle.fixed_num.proofs.Steps.{chosen, begins}
use Rattle.json_exact.proofs.Depth.{depth-List, depth-Object}
use Rattle.fixed_num.proofs.Numerals.{whole_sound, fraction_sound, sign_sound, mark_sound, mark_some, minus_sound}
use Rattle.json_exact.proofs.Quotes.{Quoted, quoted_sound}
use Rattle.json_exact.proofs.Runs.{IsElement, run_skips}
use Rattle.json_exact.proofs.Apart.{apart_pushed}
use Rattle.json_exact.proofs.Complete.{item_at, item-is, member-is}
use Rattle.json_exact.proofs.Sound.{white_sound, padded_sound, Value, PaddedValue, Items, MemberValue, Members, NamedPadded, Any, Apart}
use Rattle.json_exact.proofs.Sound.{Joins, Elements, item_joins, member_joins, padded_value_sound, items_are, members_are, number_value}
use Rattle.json_exact.proofs.Sound.{none_apart, value_sound, some_null, some_true, some_false}
use Rattle.json_exact.proofs.Opens.{Opens, at_once, behind_byte, mapped, failed, bind_err, err_is, no_err, behind_word, at_bytes}
use Rattle.json_exact.proofs.Opens.{word_opens, Is}
use Rattle.json_exact.proofs.OpenTexts.{Fresh, some_text, quoted_opens}

renamed : (P Q : List ℕ → Type 0) (bytes : List ℕ) (k : ℕ) → Opens P bytes k → ((w : List ℕ) → P w → Q w) → Opens Q bytes k
renamed P Q bytes k o f = record {
  front = o.front;
  rest = o.rest;
  more = o.more;
  parts = o.parts;
  left = o.left;
  is = f (o.front ++ o.more) o.is;
}

-- a fault behind a whole word
after_whole : (P : List ℕ → Type 0) (bytes word rest : List ℕ) (k : ℕ) → bytes ≡ word ++ rest → length rest ≡ k → (more : List ℕ)
    → P (word ++ more) → Opens P bytes k
after_whole P bytes word rest k parts left more is = record { front = word; rest = rest; more = more; parts = parts; left = left; is = is }

-- ---- numbers

abbrev IsNumeral : List ℕ → Type 0
IsNumeral word = (p : Parts) × numbers.Spells word p

abbrev Behind : Bool → List ℕ → Type 0
Behind minus word = IsNumeral (sign_text minus ++ word)

made : (minus : Bool) (whole fraction etext : List ℕ) (e : ℤ) → IsWhole whole → AreDigits fraction → IsExponent etext e
    → Behind minus (whole ++ (fraction_text fraction ++ etext))
made minus whole fraction etext e w f x =
    let joined : ((sign_text minus ++ whole) ++ fraction_text fraction) ++ etext
    ≡ sign_text minus ++ (whole ++ (fraction_text fraction ++ etext)) = simp append_assoc in (
      record { minus = minus; whole = whole; fraction = fraction; exponent = e },
      record {
        exponent_text = etext;
        whole = w;
        fraction = f;
        exponent = x;
        joined = sym joined;
      },
    )

zero_whole : IsWhole (48 ∷ [])
zero_whole = record { some = λ same. absurd cc; digits = refl; leading_zero = λ e. refl }

digits_refused : (bytes : List ℕ) (k : ℕ) → digits_at bytes ≡ Err k → length bytes ≡ k
unfolding digits_at
digits_refused bytes k e = elim (chosen (is_ascii_digit (first bytes)) (Ok (leading_digits bytes, after_digits bytes)) (stop bytes)
    (failed k) e) [
      | inl c ↦ absurd (no_err (leading_digits bytes, after_digits bytes) k c.1)
      | inr c ↦ err_is (length bytes) k c.1
    ]

whole_refused : (bytes : List ℕ) (k : ℕ) → whole_at bytes ≡ Err k → length bytes ≡ k
unfolding whole_at
whole_refused bytes k e = elim (chosen (eqb (first bytes) 48) (Ok (48 ∷ [], drop 1 bytes)) (digits_at bytes) (failed k) e) [
  | inl c ↦ absurd (no_err (48 ∷ [], drop 1 bytes) k c.1)
  | inr c ↦ digits_refused bytes k c.1
]

fraction_opens : (P : List ℕ → Type 0) (bytes : List ℕ) (k : ℕ) → P (46 ∷ 48 ∷ []) → fraction_at bytes ≡ Err k → Opens P bytes k
unfolding fraction_at
fraction_opens P bytes k is e = elim (chosen (eqb (first bytes) 46) (digits_at (drop 1 bytes)) (Ok ([], bytes)) (failed k) e) [
  | inl c ↦ after_whole P bytes (46 ∷ []) (drop 1 bytes) k (begins bytes 46 (omega arith) (eqb-true _ _ c.0))
      (digits_refused (drop 1 bytes) k c.1) (48 ∷ []) is
  | inr c ↦ absurd (no_err ([], bytes) k c.1)
]

exponent_opens : (P : List ℕ → Type 0) (bytes : List ℕ) (k : ℕ) → ((etext : List ℕ) (e : ℤ) → IsExponent etext e → P etext)
    → exponent_at bytes ≡ Err k → Opens P bytes k
unfolding exponent_at signed_at
exponent_opens P bytes k is e =
    let digits = digits_at (after_sign (drop 1 bytes)) in
    let give : List ℕ × List ℕ → Read ℤ = λ x. Ok (signed (eqb (first (drop 1 bytes)) 45) (number_of x.0), x.1) in
    elim (chosen (is_mark (first bytes)) (digits >>= give) (Ok (pos 0, bytes)) (failed k) e) [
      | inl c ↦ elim (bind_err digits give k c.1) [
        | inl f ↦
            let s = sign_sound (drop 1 bytes) in
            let mark = first bytes in
            let word : List ℕ = mark ∷ s.0 in
            let whole : bytes ≡ word ++ after_sign (drop 1 bytes) =
            begins bytes mark (mark_some mark c.0) refl ∙ ap (λ (t : List ℕ). mark ∷ t) s.2 in
            let minus = eqb (first (drop 1 bytes)) 45 in
            let x : IsExponent (mark ∷ (s.0 ++ 48 ∷ [])) (signed minus (number_of (48 ∷ []))) = (
              mark_sound mark c.0,
              record {
                sign = s.0;
                minus = minus;
                digits = 48 ∷ [];
                is_sign = s.1;
                some = λ same. absurd cc;
                all_digits = refl;
                joined = refl;
                value = refl;
              },
            ) in
            after_whole P bytes word (after_sign (drop 1 bytes)) k whole (digits_refused (after_sign (drop 1 bytes)) k f) (48 ∷ [])
            (is (mark ∷ (s.0 ++ 48 ∷ [])) (signed minus (number_of (48 ∷ []))) x)
        | inr x ↦ absurd (no_err (signed (eqb (first (drop 1 bytes)) 45) (number_of x.0.0), x.0.1) k x.2)
      ]
      | inr c ↦ absurd (no_err (pos 0, bytes) k c.1)
    ]

numeral_opens : (bytes : List ℕ) (k : ℕ) → parts_at bytes ≡ Err k → Opens IsNumeral bytes k
unfolding parts_at
numeral_opens bytes k e =
    let minus = eqb (first bytes) 45 in
    let rest = after_minus bytes in
    let give : List ℕ → List ℕ → (ℤ × List ℕ) → Read Parts =
    λ w f z. Ok (record { minus = minus; whole = w; fraction = f; exponent = z.0 }, z.1) in
    at_bytes IsNumeral bytes (sign_text minus ++ rest) k (minus_sound bytes)
    (behind_word IsNumeral (sign_text minus) rest k
    (elim (bind_err (whole_at rest) (λ w. fraction_at w.1 >>= λ f. exponent_at f.1 >>= give w.0 f.0) k e) [
      | inl f ↦ at_once (Behind minus) rest k (48 ∷ []) (whole_refused rest k f) (made minus (48 ∷ []) [] [] (pos 0) zero_whole refl refl)
      | inr w ↦
          let s = whole_sound rest w.0 w.1 in
          let parts : rest ≡ w.0.0 ++ w.0.1 = s.parts ∙ ap (λ (t : List ℕ). t ++ w.0.1) s.is.0 in
          at_bytes (Behind minus) rest (w.0.0 ++ w.0.1) k parts
          (behind_word (Behind minus) w.0.0 w.0.1 k
          (elim (bind_err (fraction_at w.0.1) (λ f. exponent_at f.1 >>= give w.0.0 f.0) k w.2) [
            | inl f ↦ fraction_opens (λ t. Behind minus (w.0.0 ++ t)) w.0.1 k (made minus w.0.0 (48 ∷ []) [] (pos 0) s.is.1 refl refl) f
            | inr f ↦
                let t = fraction_sound w.0.1 f.0 f.1 in
                let ftext : List ℕ = fraction_text f.0.0 in
                let fparts : w.0.1 ≡ ftext ++ f.0.1 = t.parts ∙ ap (λ (u : List ℕ). u ++ f.0.1) t.is.0 in
                at_bytes (λ t. Behind minus (w.0.0 ++ t)) w.0.1 (ftext ++ f.0.1) k fparts
                (behind_word (λ t. Behind minus (w.0.0 ++ t)) ftext f.0.1 k
                (elim (bind_err (exponent_at f.0.1) (give w.0.0 f.0.0) k f.2) [
                  | inl g ↦ exponent_opens (λ u. Behind minus (w.0.0 ++ (ftext ++ u))) f.0.1 k
                      (λ etext x is. made minus w.0.0 f.0.0 etext x s.is.1 t.is.1 is) g
                  | inr g ↦ absurd (no_err (record { minus = minus; whole = w.0.0; fraction = f.0.0; exponent = g.0.0 }, g.0.1) k g.2)
                ]))
          ]))
    ]))

-- ---- values that are neither lists nor objects

abbrev SomeValue : ℕ → List ℕ → Type 0
SomeValue level word = (tree : Json) × Value level tree word

null_value : (level : ℕ) → SomeValue level (codes "null")
null_value level = (json.Null, (null, omega arith))

-- a null at once
a_null : (level : ℕ) (bytes : List ℕ) (k : ℕ) → length bytes ≡ k → Opens (SomeValue level) bytes k
a_null level bytes k e = at_once (SomeValue level) bytes k (codes "null") e (null_value level)

word_value : (level : ℕ) (word : List ℕ) (tree : Json) (bytes : List ℕ) (k : ℕ) → AllByRecursion (λ b. 0 < b) word → Value level tree word
    → word_at word tree bytes ≡ Err k → Opens (SomeValue level) bytes k
word_value level word tree bytes k some v e = elim (bind_err (after_word word bytes) (λ rest. Ok (tree, rest)) k e) [
  | inl f ↦ renamed (Is word) (SomeValue level) bytes k (word_opens word bytes k some f)
      (λ w same. (tree, subst (λ (t : List ℕ). Value level tree t) (sym same) v))
  | inr x ↦ absurd (no_err (tree, x.0) k x.2)
]

number_opens : (level : ℕ) (bytes : List ℕ) (k : ℕ) → number_at bytes ≡ Err k → Opens (SomeValue level) bytes k
unfolding number_at
number_opens level bytes k e = elim (bind_err (parts_at bytes) (λ x. Ok (number_tree (decimal_value x.0), x.1)) k e) [
  | inl f ↦ renamed IsNumeral (SomeValue level) bytes k (numeral_opens bytes k f)
      (λ w s. (number_tree (decimal_value s.0), number_value level s.0 w s.1))
  | inr x ↦ absurd (no_err (number_tree (decimal_value x.0.0), x.0.1) k x.2)
]

flat_opens : (level : ℕ) (bytes : List ℕ) (k : ℕ) → flat_at bytes ≡ Err k → Opens (SomeValue level) bytes k
unfolding flat_at
flat_opens level bytes k e =
    elim (chosen (eqb (first bytes) 34) (quoted_at [] bytes >>= λ y. Ok (json.Text y.0, y.1)) _ (failed k) e) [
      | inl d ↦ elim (bind_err (quoted_at [] bytes) (λ y. Ok (json.Text y.0, y.1)) k d.1) [
        | inl f ↦ renamed (Fresh []) (SomeValue level) bytes k (quoted_opens [] bytes k f)
            (λ w q. (json.Text q.0, (text q.0 w q.1.0, omega arith)))
        | inr x ↦ absurd (no_err (json.Text x.0.0, x.0.1) k x.2)
      ]
      | inr d ↦ elim (chosen (eqb (first bytes) 110) (word_at (codes "null") json.Null bytes) _ (failed k) d.1) [
        | inl w ↦ word_value level (codes "null") json.Null bytes k some_null (null, omega arith) w.1
        | inr w ↦ elim (chosen (eqb (first bytes) 116) (word_at (codes "true") (json.Flag true) bytes) _ (failed k) w.1) [
          | inl v ↦ word_value level (codes "true") (json.Flag true) bytes k some_true (yes, omega arith) v.1
          | inr v ↦ elim (chosen (eqb (first bytes) 102) (word_at (codes "false") (json.Flag false) bytes) (number_at bytes) (failed k) v.1) [
            | inl u ↦ word_value level (codes "false") (json.Flag false) bytes k some_false (no, omega arith) u.1
            | inr u ↦ number_opens level bytes k u.1
          ]
        ]
      ]
    ]

-- ---- white space

padded_opens : {A : Type 0} (P Q : List ℕ → Type 0) (element : List ℕ → Read A)
    → ((bytes : List ℕ) (k : ℕ) → element bytes ≡ Err k → Opens P bytes k) → ((before w : List ℕ) → IsWhite before → P w → Q (before ++ w))
    → (bytes : List ℕ) (k : ℕ) → padded_at element bytes ≡ Err k → Opens Q bytes k
padded_opens P Q element opens pads bytes k e = elim (bind_err (element (skip_white bytes)) (λ x. Ok (x.0, skip_white x.1)) k e) [
  | inl f ↦
      let w = white_sound bytes in
      at_bytes Q bytes (w.0 ++ skip_white bytes) k w.1
      (behind_word Q w.0 (skip_white bytes) k (renamed P (λ t. Q (w.0 ++ t)) (skip_white bytes) k (opens (skip_white bytes) k f)
      (λ t p. pads w.0 t w.2 p)))
  | inr x ↦ absurd (no_err (x.0.0, skip_white x.0.1) k x.2)
]

abbrev SomePadded : ℕ → List ℕ → Type 0
SomePadded level word = (tree : Json) × PaddedValue level tree word

pads_value : (level : ℕ) (before w : List ℕ) → IsWhite before → SomeValue level w → SomePadded level (before ++ w)
pads_value level before w wb v =
    (v.0, (subst (λ (t : List ℕ). SpellsPadded v.0 t) (append-nil (before ++ w)) (padded v.0 before w [] wb v.1.0 tt), v.1.1))

abbrev ValueOpens : ℕ → Type 0
ValueOpens level = (bytes : List ℕ) (k : ℕ) → value_at level bytes ≡ Err k → Opens (SomeValue level) bytes k

padded_value_opens : (level : ℕ) → ValueOpens level → (bytes : List ℕ) (k : ℕ) → padded_at (value_at level) bytes ≡ Err k
    → Opens (SomePadded level) bytes k
padded_value_opens level opens = padded_opens (SomeValue level) (SomePadded level) (value_at level) opens (pads_value level)

-- ---- lists and objects

module _ {A : Type 0} (P : A → List ℕ → Type 0) (Q : List A → List ℕ → Type 0) (Kept : List A → Type 0) (joins : Joins P Q) (close : ℕ)
    (element : List A → List ℕ → Read A) (are : Elements P Kept element) where
  -- an element that may come next
  abbrev Next : List A → List ℕ → Type 0
  Next out word = (x : A) × P x word × Kept (out ++ x ∷ [])

  abbrev Further : List A → List ℕ → Type 0
  Further out word = (xs : List A) × (0 < length xs) × Q xs word × Kept (out ++ xs)

  one_more : (out : List A) (word : List ℕ) → Next out word → Further out word
  one_more out word n = (n.0 ∷ [], omega arith, joins.last n.0 word n.1, n.2)

  run_more : (x : A) (xs : List A) (front back : List ℕ) → P x front → 0 < length xs → Q xs back → Q (x ∷ xs) (front ++ 44 ∷ back)
  run_more x [] front back p some q = absurd (omega arith)
  run_more x (y ∷ xs) front back p some q = joins.more x y xs front back p q

  module _ (opens : (out : List A) → Kept out → (bytes : List ℕ) (k : ℕ) → element out bytes ≡ Err k → Opens (Next out) bytes k)
      (start : (out : List A) → Kept out → (word : List ℕ) × Next out word) where
    run_opens : (fuel : ℕ) (out : List A) (bytes : List ℕ) (k : ℕ) → Kept out → run_at close element fuel out bytes ≡ Err k
        → Opens (Further out) bytes k
    unfolding run_at
    run_opens zero out bytes k kept e =
        let s = start out kept in
        at_once (Further out) bytes k s.0 (err_is (length bytes) k e) (one_more out s.0 s.1)
    run_opens (suc fuel) out bytes k kept e =
        let then : A × List ℕ → Read (List A) =
        λ y. cond (eqb (first y.1) 44) (run_at close element fuel (out ++ y.0 ∷ []) (drop 1 y.1))
        (cond (eqb (first y.1) close) (Ok (out ++ y.0 ∷ [], drop 1 y.1)) (stop y.1)) in
        elim (bind_err (element out bytes) then k e) [
          | inl f ↦ renamed (Next out) (Further out) bytes k (opens out kept bytes k f) (one_more out)
          | inr x ↦
              let s = are.sound out kept bytes x.0 x.1 in
              let t = s.0 in
              elim (chosen (eqb (first x.0.1) 44) (run_at close element fuel (out ++ x.0.0 ∷ []) (drop 1 x.0.1))
              (cond (eqb (first x.0.1) close) (Ok (out ++ x.0.0 ∷ [], drop 1 x.0.1)) (stop x.0.1)) (failed k) x.2) [
                | inl c ↦
                    let o = run_opens fuel (out ++ x.0.0 ∷ []) (drop 1 x.0.1) k s.1 c.1 in
                    let whole : bytes ≡ t.word ++ (44 ∷ drop 1 x.0.1) =
                    t.parts ∙ ap (λ (w : List ℕ). t.word ++ w) (begins x.0.1 44 (omega arith) (eqb-true _ _ c.0)) in
                    at_bytes (Further out) bytes (t.word ++ (44 ∷ drop 1 x.0.1)) k whole
                    (behind_word (Further out) t.word (44 ∷ drop 1 x.0.1) k
                    (behind_byte (λ w. Further out (t.word ++ w)) 44 (drop 1 x.0.1) k
                    (renamed (Further (out ++ x.0.0 ∷ [])) (λ w. Further out (t.word ++ (44 ∷ w))) (drop 1 x.0.1) k o
                    (λ w h. (
                      x.0.0 ∷ h.0,
                      omega arith,
                      run_more x.0.0 h.0 t.word w t.is h.1 h.2,
                      subst Kept
                          (append_assoc out (x.0.0 ∷ []) h.0) h.3,
                    )))))
                | inr c ↦ elim (chosen (eqb (first x.0.1) close) (Ok (out ++ x.0.0 ∷ [], drop 1 x.0.1)) (stop x.0.1) (failed k) c.1) [
                  | inl d ↦ absurd (no_err (out ++ x.0.0 ∷ [], drop 1 x.0.1) k d.1)
                  | inr d ↦ after_whole (Further out) bytes t.word x.0.1 k t.parts (err_is (length x.0.1) k d.1) []
                      (subst (Further out) (sym (append-nil t.word)) (one_more out t.word (x.0.0, t.is, s.1)))
                ]
              ]
        ]

    -- what stands between the brackets, and the closing one
    abbrev Closed : List ℕ → Type 0
    Closed word = (xs : List A) × (inside : List ℕ) × (word ≡ inside ++ close ∷ []) × Q xs inside × Kept xs

    first_run : IsElement close element → (bytes : List ℕ) (k : ℕ) → Kept []
        → run_at close element (length bytes) [] (skip_white bytes) ≡ Err k → Opens (Further []) bytes k
    unfolding skip_white run_at
    first_run is [] k kept e =
        let s = start [] kept in
        at_once (Further []) [] k s.0 (err_is 0 k e) (one_more [] s.0 s.1)
    first_run is (b ∷ bytes) k kept e =
        run_opens (length (b ∷ bytes)) [] (b ∷ bytes) k kept
        (sym (run_skips close element is (length (b ∷ bytes)) [] (b ∷ bytes) (omega arith)) ∙ e)

    pub sequence_opens : IsElement close element → Kept [] → (bytes : List ℕ) (k : ℕ) → sequence_at close element bytes ≡ Err k
        → Opens Closed bytes k
    unfolding sequence_at
    sequence_opens is kept bytes k e =
        elim (chosen (eqb (first (skip_white bytes)) close) (Ok ([], drop 1 (skip_white bytes)))
        (run_at close element (length bytes) [] (skip_white bytes)) (failed k) e) [
          | inl c ↦ absurd (no_err ([], drop 1 (skip_white bytes)) k c.1)
          | inr c ↦ mapped (Further []) Closed bytes k (first_run is bytes k kept c.1) (λ w h. (close ∷ [], (h.0, w, refl, h.2, h.3)))
        ]

-- ---- values

some_padded : (level : ℕ) → SomePadded level (codes "null")
some_padded level = (json.Null, (padded json.Null [] (codes "null") [] tt null tt, omega arith))

item_opens : (level : ℕ) → ValueOpens level → (out : List Json) → Any out → (bytes : List ℕ) (k : ℕ) → item_at level out bytes ≡ Err k
    → Opens (Next (PaddedValue level) (Items level) Any (item_joins level) 93 (item_at level) (items_are level (value_sound level)) out)
    bytes k
item_opens level opens out kept bytes k e =
    renamed (SomePadded level) (Next (PaddedValue level) (Items level) Any (item_joins level) 93 (item_at level)
    (items_are level (value_sound level)) out) bytes k (padded_value_opens level opens bytes k e) (λ w v. (v.0, v.1, tt))

list_opens : (level : ℕ) → ValueOpens level → (bytes : List ℕ) (k : ℕ) → list_at (value_at level) bytes ≡ Err k
    → Opens (λ w. SomeValue (suc level) (91 ∷ w)) bytes k
unfolding list_at
list_opens level opens bytes k e = elim (bind_err (sequence_at 93 (item_at level) bytes) (λ items. Ok (json.List items.0, items.1)) k e) [
  | inl f ↦ renamed (Closed (PaddedValue level) (Items level) Any (item_joins level) 93 (item_at level)
      (items_are level (value_sound level)) (item_opens level opens)
      (λ out kept. (codes "null", ((some_padded level).0, (some_padded level).1, tt)))) (λ w. SomeValue (suc level) (91 ∷ w)) bytes k
      (sequence_opens (PaddedValue level) (Items level) Any (item_joins level) 93 (item_at level) (items_are level (value_sound level))
      (item_opens level opens) (λ out kept. (codes "null", ((some_padded level).0, (some_padded level).1, tt)))
      (item-is level) tt bytes k f)
      (λ w h. (
        json.List h.0,
        (
          subst (λ (t : List ℕ). Spells (json.List h.0) (91 ∷ t)) (sym h.2) (list h.0 h.1 h.3.0),
          rw (depth-List h.0)
              (omega (arith, h.3.1)),
        ),
      ))
  | inr x ↦ absurd (no_err (json.List x.0.0, x.0.1) k x.2)
]

-- a member with a name that is new
named_member : (level : ℕ) (out : List Member) → Apart out → (name word value : List ℕ) → NamedPadded (names_of out) name word
    → SomePadded level value → (m : Member) × MemberValue level m (word ++ 58 ∷ value) × Apart (out ++ m ∷ [])
named_member level out kept name word value n v =
    let m : Member = record { name = name; value = v.0 } in
    let f = n.0 in
    let spells : SpellsMember m (f.before ++ f.quoted ++ f.after ++ 58 ∷ value) =
    member m f.before f.quoted f.after value f.white_before f.is f.white_after v.1.0 in
    (m, (subst (λ (t : List ℕ). SpellsMember m (t ++ 58 ∷ value)) (sym f.whole) spells, v.1.1), apart_pushed out m kept n.1)

abbrev NextMember : ℕ → List Member → List ℕ → Type 0
NextMember level out word = Next (MemberValue level) (Members level) Apart (member_joins level) 125 (member_at (value_at level))
    (members_are level (value_sound level)) out word

abbrev SomeNamed : List (List ℕ) → List ℕ → Type 0
SomeNamed names word = (name : List ℕ) × NamedPadded names name word

pads_name : (names : List (List ℕ)) (before w : List ℕ) → IsWhite before → Fresh names w → SomeNamed names (before ++ w)
pads_name names before w wb q = (
  q.0,
  (
    record {
      before = before;
      quoted = w;
      after = [];
      whole = sym (append-nil (before ++ w));
      white_before = wb;
      is = q.1.0;
      white_after = tt;
    },
    q.1.1,
  ),
)

then_null : (level : ℕ) (out : List Member) → Apart out → (w : List ℕ) → SomeNamed (names_of out) w
    → (more : List ℕ) × NextMember level out (w ++ more)
then_null level out kept w n = (58 ∷ codes "null", named_member level out kept n.0 w (codes "null") n.1 (some_padded level))

member_opens : (level : ℕ) → ValueOpens level → (out : List Member) → Apart out → (bytes : List ℕ) (k : ℕ)
    → member_at (value_at level) out bytes ≡ Err k → Opens (NextMember level out) bytes k
unfolding member_at
member_opens level opens out kept bytes k e =
    let names = names_of out in
    let make : List ℕ → Json × List ℕ → Read Member = λ name y. Ok (record { name = name; value = y.0 }, y.1) in
    let name_then : (List ℕ × List ℕ) → Read Member =
    λ name. cond (eqb (first name.1) 58) (padded_at (value_at level) (drop 1 name.1) >>= make name.0) (stop name.1) in
    elim (bind_err (padded_at (quoted_at names) bytes) name_then k e) [
      | inl f ↦ mapped (SomeNamed names) (NextMember level out) bytes k
          (padded_opens (Fresh names) (SomeNamed names) (quoted_at names) (quoted_opens names) (pads_name names) bytes k f)
          (then_null level out kept)
      | inr x ↦
          let t = padded_sound (Quoted names) (NamedPadded names) (quoted_at names) (quoted_sound names)
          (λ name before word after wb q wa. (
            record {
              before = before;
              quoted = word;
              after = after;
              whole = refl;
              white_before = wb;
              is = q.0;
              white_after = wa;
            },
            q.1,
          )) bytes x.0 x.1 in
          elim (chosen (eqb (first x.0.1) 58) (padded_at (value_at level) (drop 1 x.0.1) >>= make x.0.0) (stop x.0.1) (failed k) x.2) [
            | inl c ↦ elim (bind_err (padded_at (value_at level) (drop 1 x.0.1)) (make x.0.0) k c.1) [
              | inl f ↦
                  let whole : bytes ≡ t.word ++ (58 ∷ drop 1 x.0.1) =
                  t.parts ∙ ap (λ (w : List ℕ). t.word ++ w) (begins x.0.1 58 (omega arith) (eqb-true _ _ c.0)) in
                  at_bytes (NextMember level out) bytes (t.word ++ (58 ∷ drop 1 x.0.1)) k whole
                  (behind_word (NextMember level out) t.word (58 ∷ drop 1 x.0.1) k
                  (behind_byte (λ w. NextMember level out (t.word ++ w)) 58 (drop 1 x.0.1) k
                  (renamed (SomePadded level) (λ w. NextMember level out (t.word ++ (58 ∷ w))) (drop 1 x.0.1) k
                  (padded_value_opens level opens (drop 1 x.0.1) k f) (λ w v. named_member level out kept x.0.0 t.word w t.is v))))
              | inr y ↦ absurd (no_err (record { name = x.0.0; value = y.0.0 }, y.0.1) k y.2)
            ]
            | inr c ↦
                let n = then_null level out kept t.word (x.0.0, t.is) in
                after_whole (NextMember level out) bytes t.word x.0.1 k t.parts (err_is (length x.0.1) k c.1) n.0 n.1
          ]
    ]

some_member : (level : ℕ) (out : List Member) → Apart out → (word : List ℕ) × NextMember level out word
some_member level out kept =
    let q = some_text (names_of out) in
    let n = then_null level out kept ([] ++ q.0) (pads_name (names_of out) [] q.0 tt q.1) in
    (q.0 ++ n.0, n.1)

object_opens : (level : ℕ) → ValueOpens level → (bytes : List ℕ) (k : ℕ) → object_at (value_at level) bytes ≡ Err k
    → Opens (λ w. SomeValue (suc level) (123 ∷ w)) bytes k
unfolding object_at
object_opens level opens bytes k e =
    elim (bind_err (sequence_at 125 (member_at (value_at level)) bytes) (λ members. Ok (json.Object members.0, members.1)) k e) [
      | inl f ↦ renamed (Closed (MemberValue level) (Members level) Apart (member_joins level) 125 (member_at (value_at level))
          (members_are level (value_sound level)) (member_opens level opens) (some_member level))
          (λ w. SomeValue (suc level) (123 ∷ w)) bytes k
          (sequence_opens (MemberValue level) (Members level) Apart (member_joins level) 125 (member_at (value_at level))
          (members_are level (value_sound level)) (member_opens level opens) (some_member level) (member-is level) none_apart bytes k f)
          (λ w h. (
            json.Object h.0,
            (
              subst (λ (t : List ℕ). Spells (json.Object h.0) (123 ∷ t)) (sym h.2) (object h.0 h.1 h.4 h.3.0),
              rw (depth-Object h.0) (omega (arith, h.3.1)),
            ),
          ))
      | inr x ↦ absurd (no_err (json.Object x.0.0, x.0.1) k x.2)
    ]

abbrev NestedOpens : ℕ → (List ℕ → Read Json) → Type 0
NestedOpens level nested = (bytes : List ℕ) (k : ℕ) → (eqb (first bytes) 91 || eqb (first bytes) 123) ≡ true → nested bytes ≡ Err k
    → Opens (SomeValue level) bytes k

from_opens : (level : ℕ) (nested : List ℕ → Read Json) → NestedOpens level nested → (bytes : List ℕ) (k : ℕ)
    → value_from nested bytes ≡ Err k → Opens (SomeValue level) bytes k
unfolding value_from
from_opens level nested opens bytes k e =
    elim (chosen (eqb (first bytes) 91 || eqb (first bytes) 123) (nested bytes) (flat_at bytes) (failed k) e) [
      | inl c ↦ opens bytes k c.0 c.1
      | inr c ↦ flat_opens level bytes k c.1
    ]

nested_opens : (level : ℕ) → ValueOpens level → NestedOpens (suc level) (nested_at (value_at level))
unfolding nested_at
nested_opens level opens bytes k front e =
    elim (chosen (eqb (first bytes) 91) (list_at (value_at level) (drop 1 bytes)) (object_at (value_at level) (drop 1 bytes)) (failed k) e) [
      | inl c ↦ at_bytes (SomeValue (suc level)) bytes (91 ∷ drop 1 bytes) k (begins bytes 91 (omega arith) (eqb-true _ _ c.0))
          (behind_byte (SomeValue (suc level)) 91 (drop 1 bytes) k (list_opens level opens (drop 1 bytes) k c.1))
      | inr c ↦ at_bytes (SomeValue (suc level)) bytes (123 ∷ drop 1 bytes) k
          (begins bytes 123 (omega arith) (eqb-true (first bytes) 123 (rw c.0 at front)))
          (behind_byte (SomeValue (suc level)) 123 (drop 1 bytes) k (object_opens level opens (drop 1 bytes) k c.1))
    ]

value_opens : (level : ℕ) → ValueOpens level
unfolding value_at
value_opens zero bytes k e = from_opens 0 (λ rest. stop rest) (λ other j front f. a_null 0 other j (err_is (length other) j f)) bytes k e
value_opens (suc level) bytes k e = from_opens (suc level) (nested_at (value_at level)) (nested_opens level (value_opens level)) bytes k e

-- ---- all of the bytes

abbrev pub IsText : List ℕ → Type 0
IsText word = (tree : Json) × Reads word tree

pub text_opens : (bytes : List ℕ) (k : ℕ) → text_at bytes ≡ Err k → Opens IsText bytes k
unfolding text_at
text_opens bytes k e = elim (bind_err (padded_at (value_at 128) bytes) (λ x. cond (eqb (length x.1) 0) (Ok x.0) (stop x.1)) k e) [
  | inl f ↦ renamed (SomePadded 128) IsText bytes k (padded_value_opens 128 (value_opens 128) bytes k f) (λ w v. v)
  | inr x ↦
      let t = padded_value_sound 128 (value_sound 128) bytes x.0 x.1 in
      elim (chosen (eqb (length x.0.1) 0) (Ok x.0.0) (stop x.0.1) (failed k) x.2) [
        | inl c ↦ absurd (no_err x.0.0 k c.1)
        | inr c ↦ after_whole IsText bytes t.word x.0.1 k t.parts (err_is (length x.0.1) k c.1) []
            (x.0.0, subst (λ (w : List ℕ). Reads w x.0.0) (sym (append-nil t.word)) t.is)
      ]
]
