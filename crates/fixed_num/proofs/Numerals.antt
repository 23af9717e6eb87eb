-- Numbers: what is spelled is read, and what is read is spelled so.
use Rattle.std.proofs.Common.{◌≡◌, ℕ, suc, ◌+◌, subst, ◌<◌, ◌≤◌, Bool, true, false, eqb, List, [], ◌∷◌, ◌++◌, length, drop, Result, Ok, Err}
use Rattle.std.proofs.Common.{ℤ, pos, Option, Some, None, take, refl, sym, ap, ◌∙◌, append_assoc, arith, inl, inr, ◌⊎◌}
use Rattle.std.specs.Prelude.{◌≢◌, ◌↔◌, IfOk, IsErrOf}
use Rattle.std.specs.Option.{SomeIff, ok_or}
use Rattle.fixed_num.specs.declared.reading.NumFault.{NumFault}
use Rattle.fixed_num.specs.declared.reading.NumFault.TheVariants.{Shape, Range}
use Rattle.std.specs.List.{list_all, prefix_len}
use Rattle.std.specs.Char.{is_ascii_digit}
use Rattle.std.specs.Fmt.{sign_text}
use Rattle.std.proofs.lemmas.Bool.{cases_Bool, cond-true, cond-false, and_parts, and_from, eqb-true, eqb-false, or_cases}
use Rattle.std.proofs.lemmas.Bool.Decides.{nat_tests}
use Rattle.std.proofs.lemmas.List.{append-nil}
use Rattle.std.proofs.lemmas.Option.{none-some, same_Some}
use Rattle.fixed_num.specs.Number.{signed, IsNumber}
use Rattle.fixed_num.specs.JsonNumber.{Parts, Spells, IsWhole, AreDigits, fraction_text, IsSign, IsExponent, IsJsonNumber, number_of}
use Rattle.fixed_num.specs.JsonNumber.{decimal_value, Reads}
use Rattle.fixed_num.specs.Laws.{IsAtFront}
use Rattle.fixed_num.specs.Ranges.{in_range}
use Rattle.fixed_num.specs.Steps.{◌>>=◌}
use Rattle.fixed_num.proofs.RangeLemmas.{in_range_at_number, in_range_elsewhere, in_range_from_exact, is_number_or_not}
use Rattle.fixed_num.specs.Front.{Read, first, stop, leading_digits, after_digits, digits_at, whole_at, fraction_at, is_sign, is_mark}
use Rattle.fixed_num.specs.Front.{after_sign, signed_at, exponent_at, after_minus, parts_at, decimal_at, ends_number}
use Rattle.fixed_num.proofs.Steps.{bind_ok, chosen, guarded, done, ok_is, Takes, Sound, Sound-at, begins}

same_ok : {A : Type 0} (a b : A) (r s : List ℕ) → a ≡ b → r ≡ s → done {A = A × List ℕ} (a, r) ≡ done {A = A × List ℕ} (b, s)
same_ok a b r s e f = cc

-- ---- what is spelled is read

pub digits_list : (ds rest : List ℕ) → AreDigits ds → is_ascii_digit (first rest) ≡ false
    → (leading_digits (ds ++ rest) ≡ ds) × (after_digits (ds ++ rest) ≡ rest)
unfolding leading_digits after_digits
digits_list [] [] d e = (refl, refl)
digits_list [] (b ∷ rest) d e = (cond-false _ _ _ e, cond-false _ _ _ e)
digits_list (x ∷ ds) rest d e =
    let p = and_parts _ _ d in
    let k = digits_list ds rest p.1 e in
    (cond-true _ _ _ p.0 ∙ ap (λ (t : List ℕ). x ∷ t) k.0, cond-true _ _ _ p.0 ∙ k.1)

digits_again : (ds rest : List ℕ) → AreDigits ds → ds ≢ [] → is_ascii_digit (first rest) ≡ false → digits_at (ds ++ rest) ≡ Ok (ds, rest)
unfolding digits_at
digits_again [] rest d some e = absurd (some refl)
digits_again (x ∷ ds) rest d some e =
    let k = digits_list (x ∷ ds) rest d e in
    let digit : is_ascii_digit x ≡ true = (and_parts (is_ascii_digit x) (list_all is_ascii_digit ds) d).0 in
    cond-true (is_ascii_digit x) (Ok (leading_digits ((x ∷ ds) ++ rest), after_digits ((x ∷ ds) ++ rest))) (stop ((x ∷ ds) ++ rest)) digit
    ∙ same_ok _ _ _ _ k.0 k.1

not_48 : (ds : List ℕ) → IsWhole ds → (ds ≡ 48 ∷ []) ⊎ ((rest : List ℕ) → eqb (first (ds ++ rest)) 48 ≡ false)
not_48 [] w = absurd (w.some refl)
not_48 (x ∷ ds) w = elim (cases_Bool (eqb x 48)) [
  | inl e ↦ inl (w.leading_zero (eqb-true _ _ e))
  | inr e ↦ inr (λ rest. e)
]

whole_again : (ds rest : List ℕ) → IsWhole ds → is_ascii_digit (first rest) ≡ false → whole_at (ds ++ rest) ≡ Ok (ds, rest)
unfolding whole_at
whole_again ds rest w e = elim (not_48 ds w) [
  | inl zero_alone ↦ rw zero_alone refl
  | inr other ↦ cond-false _ _ _ (other rest) ∙ digits_again ds rest w.digits w.some e
]

fraction_again : (ds rest : List ℕ) → AreDigits ds → is_ascii_digit (first rest) ≡ false → eqb (first rest) 46 ≡ false
    → fraction_at (fraction_text ds ++ rest) ≡ Ok (ds, rest)
unfolding fraction_at
fraction_again [] rest d e f = cond-false _ _ _ f
fraction_again (x ∷ ds) rest d e f = digits_again (x ∷ ds) rest d (λ same. absurd cc) e

ends_parts : (b : ℕ) → ends_number b ≡ true → (is_ascii_digit b ≡ false) × (eqb b 46 ≡ false) × (is_mark b ≡ false)
ends_parts b e = (grind (arith, nat_tests), grind (arith, nat_tests), grind (arith, nat_tests))

digit_is : (b : ℕ) → is_ascii_digit b ≡ true → (is_sign b ≡ false) × (eqb b 45 ≡ false)
digit_is b e = (grind (arith, nat_tests), grind (arith, nat_tests))

signed_again : (sign ds rest : List ℕ) (minus : Bool) → IsSign sign minus → AreDigits ds → ds ≢ []
    → (after_sign ((sign ++ ds) ++ rest) ≡ ds ++ rest) × (eqb (first ((sign ++ ds) ++ rest)) 45 ≡ minus)
signed_again [] [] rest minus s d some = absurd (some refl)
signed_again [] (x ∷ ds) rest minus s d some =
    let k = digit_is x (and_parts _ _ d).0 in
    (cond-false _ _ _ k.0, k.1 ∙ sym s)
signed_again (c ∷ []) ds rest minus (inl s) d some = rw (s.0, s.1) (refl, refl)
signed_again (c ∷ []) ds rest minus (inr s) d some = rw (s.0, s.1) (refl, refl)
signed_again (c ∷ x ∷ xs) ds rest minus s d some = absurd s

mark_is : (b : ℕ) → (b ≡ 101) ⊎ (b ≡ 69) → is_mark b ≡ true
mark_is b (inl e) = rw e refl
mark_is b (inr e) = rw e refl

exponent_again : (text rest : List ℕ) (n : ℤ) → IsExponent text n → ends_number (first rest) ≡ true
    → exponent_at (text ++ rest) ≡ Ok (n, rest)
unfolding exponent_at signed_at
exponent_again [] rest n x e = cond-false _ _ _ (ends_parts (first rest) e).2 ∙ same_ok _ _ _ _ (sym x) refl
exponent_again (mark ∷ text) rest n x e =
    let s = x.1 in
    let k = signed_again s.sign s.digits rest s.minus s.is_sign s.all_digits s.some in
    let text_is : text ++ rest ≡ (s.sign ++ s.digits) ++ rest = ap (λ (t : List ℕ). t ++ rest) s.joined in
    let after : after_sign (text ++ rest) ≡ s.digits ++ rest = ap after_sign text_is ∙ k.0 in
    let minus : eqb (first (text ++ rest)) 45 ≡ s.minus = ap (λ (t : List ℕ). eqb (first t) 45) text_is ∙ k.1 in
    let read = digits_again s.digits rest s.all_digits s.some (ends_parts (first rest) e).0 in
    cond-true _ _ _ (mark_is mark x.0) ∙ rw (after, read, minus, s.value) refl

exponent-first : (text rest : List ℕ) (n : ℤ) → IsExponent text n → ends_number (first rest) ≡ true
    → (is_ascii_digit (first (text ++ rest)) ≡ false) × (eqb (first (text ++ rest)) 46 ≡ false)
exponent-first [] rest n x e = ((ends_parts (first rest) e).0, (ends_parts (first rest) e).1)
exponent-first (mark ∷ text) rest n x e = elim x.0 [
  | inl m ↦ rw m (refl, refl)
  | inr m ↦ rw m (refl, refl)
]

fraction-first : (ds rest : List ℕ) → is_ascii_digit (first rest) ≡ false → is_ascii_digit (first (fraction_text ds ++ rest)) ≡ false
fraction-first [] rest e = e
fraction-first (x ∷ ds) rest e = refl

whole-first : (ds rest : List ℕ) → IsWhole ds → is_ascii_digit (first (ds ++ rest)) ≡ true
whole-first [] rest w = absurd (w.some refl)
whole-first (x ∷ ds) rest w = (and_parts _ _ w.digits).0

minus_again : (minus : Bool) (ds rest : List ℕ) → IsWhole ds
    → (after_minus (sign_text minus ++ (ds ++ rest)) ≡ ds ++ rest) × (eqb (first (sign_text minus ++ (ds ++ rest))) 45 ≡ minus)
minus_again true ds rest w = (refl, refl)
minus_again false ds rest w =
    let k = digit_is (first (ds ++ rest)) (whole-first ds rest w) in
    (cond-false _ _ _ k.1, k.1)

pub parts_again : (word rest : List ℕ) (p : Parts) → Spells word p → ends_number (first rest) ≡ true
    → parts_at (word ++ rest) ≡ Ok (p, rest)
unfolding parts_at
parts_again word rest p s e =
    let etext = s.exponent_text in
    let x = exponent-first etext rest p.exponent s.exponent e in
    let behind : List ℕ = fraction_text p.fraction ++ (etext ++ rest) in
    let m = minus_again p.minus p.whole behind s.whole in
    let whole : word ++ rest ≡ sign_text p.minus ++ (p.whole ++ behind) = ap (λ (t : List ℕ). t ++ rest) s.joined ∙ simp append_assoc in
    let after : after_minus (word ++ rest) ≡ p.whole ++ behind = ap after_minus whole ∙ m.0 in
    let minus : eqb (first (word ++ rest)) 45 ≡ p.minus = ap (λ (t : List ℕ). eqb (first t) 45) whole ∙ m.1 in
    let a = whole_again p.whole behind s.whole (fraction-first p.fraction (etext ++ rest) x.0) in
    let b = fraction_again p.fraction (etext ++ rest) s.fraction x.0 x.1 in
    let c = exponent_again etext rest p.exponent s.exponent e in
    rw (after, a, b, c, minus) refl

first_either : (minus : Bool) (bytes : List ℕ) → is_ascii_digit (first bytes) ≡ true
    → (first (sign_text minus ++ bytes) ≡ 45) ⊎ (is_ascii_digit (first (sign_text minus ++ bytes)) ≡ true)
first_either true bytes d = inl refl
first_either false bytes d = inr d

pub parts-first : (word rest : List ℕ) (p : Parts) → Spells word p
    → (first (word ++ rest) ≡ 45) ⊎ (is_ascii_digit (first (word ++ rest)) ≡ true)
parts-first word rest p s =
    let whole : word ++ rest ≡ sign_text p.minus ++ (p.whole ++ (fraction_text p.fraction ++ (s.exponent_text ++ rest))) =
    ap (λ (t : List ℕ). t ++ rest) s.joined ∙ simp append_assoc in
    rw whole (first_either p.minus (p.whole ++ (fraction_text p.fraction ++ (s.exponent_text ++ rest))) (whole-first p.whole _ s.whole))

-- ---- what is read is spelled so

pub digits_sound : (bytes : List ℕ) → (bytes ≡ leading_digits bytes ++ after_digits bytes) × AreDigits (leading_digits bytes)
unfolding leading_digits after_digits
digits_sound [] = (refl, refl)
digits_sound (b ∷ rest) = elim (cases_Bool (is_ascii_digit b)) [
  | inl e ↦ let k = digits_sound rest in rw e (ap (λ (t : List ℕ). b ∷ t) k.0, and_from _ _ e k.1)
  | inr e ↦ rw e (refl, refl)
]

pub leading_by_length : (bytes : List ℕ) → take (prefix_len is_ascii_digit bytes) bytes ≡ leading_digits bytes
unfolding leading_digits
leading_by_length [] = refl
leading_by_length (b ∷ rest) = elim (cases_Bool (is_ascii_digit b)) [
  | inl e ↦
      let one_more : 1 + prefix_len is_ascii_digit rest ≡ suc (prefix_len is_ascii_digit rest) = omega arith in
      rw (e, one_more) (ap (λ (t : List ℕ). b ∷ t) (leading_by_length rest))
  | inr e ↦ rw e refl
]

pub after_by_length : (bytes : List ℕ) → drop (prefix_len is_ascii_digit bytes) bytes ≡ after_digits bytes
unfolding after_digits
after_by_length [] = refl
after_by_length (b ∷ rest) = elim (cases_Bool (is_ascii_digit b)) [
  | inl e ↦
      let one_more : 1 + prefix_len is_ascii_digit rest ≡ suc (prefix_len is_ascii_digit rest) = omega arith in
      rw (e, one_more) (after_by_length rest)
  | inr e ↦ rw e refl
]

pub ruleset digits_by_length = (leading_by_length, after_by_length)

pub leading_are_digits : (bytes : List ℕ) → AreDigits (leading_digits bytes)
leading_are_digits bytes = (digits_sound bytes).1

some_leading : (bytes : List ℕ) → is_ascii_digit (first bytes) ≡ true
    → (leading_digits bytes ≢ []) × (first (leading_digits bytes) ≡ first bytes)
unfolding leading_digits
some_leading [] e = absurd cc
some_leading (b ∷ rest) e = rw e (λ same. absurd cc, refl)

record IsDigits (bytes ds word : List ℕ) : Type 0 where
  pub same : word ≡ ds
  pub all : AreDigits ds
  pub some : ds ≢ []
  pub front : first ds ≡ first bytes

digits_at-sound : (bytes : List ℕ) (x : List ℕ × List ℕ) → digits_at bytes ≡ Ok x → Takes (IsDigits bytes) bytes x
unfolding digits_at
digits_at-sound bytes x e =
    let g = guarded (is_ascii_digit (first bytes)) (length bytes) (Ok (leading_digits bytes, after_digits bytes)) x e in
    let k = digits_sound bytes in
    let s = some_leading bytes g.0 in
    Sound-at (IsDigits bytes) bytes (leading_digits bytes, after_digits bytes) x (ok_is (leading_digits bytes, after_digits bytes) x g.1)
    (record { word = leading_digits bytes; parts = k.0; is = record { same = refl; all = k.1; some = s.0; front = s.1 } })

abbrev pub WholeIs : List ℕ → List ℕ → Type 0
WholeIs ds word = (word ≡ ds) × IsWhole ds

pub whole_sound : Sound WholeIs whole_at
unfolding whole_at
whole_sound bytes x e = elim (chosen (eqb (first bytes) 48) (Ok (48 ∷ [], drop 1 bytes)) (digits_at bytes) (Ok x) e) [
  | inl c ↦ Sound-at WholeIs bytes (48 ∷ [], drop 1 bytes) x (ok_is (48 ∷ [], drop 1 bytes) x c.1) (record {
    word = 48 ∷ [];
    parts = begins bytes 48 (omega arith) (eqb-true _ _ c.0);
    is =
        (refl, record { some = λ same. absurd cc; digits = refl; leading_zero = λ z. refl });
  })
  | inr c ↦
      let t = digits_at-sound bytes x c.1 in
      record {
        word = t.word;
        parts = t.parts;
        is = (
          t.is.same,
          record {
            some = t.is.some;
            digits = t.is.all;
            leading_zero = λ z. absurd (eqb-false _ _ c.0 (sym t.is.front ∙ z));
          },
        );
      }
]

abbrev pub FractionIs : List ℕ → List ℕ → Type 0
FractionIs ds word = (word ≡ fraction_text ds) × AreDigits ds

fraction_of_some : (ds : List ℕ) → ds ≢ [] → 46 ∷ ds ≡ fraction_text ds
fraction_of_some [] some = absurd (some refl)
fraction_of_some (d ∷ ds) some = refl

pub fraction_sound : Sound FractionIs fraction_at
unfolding fraction_at
fraction_sound bytes x e = elim (chosen (eqb (first bytes) 46) (digits_at (drop 1 bytes)) (Ok ([], bytes)) (Ok x) e) [
  | inl c ↦
      let t = digits_at-sound (drop 1 bytes) x c.1 in
      record {
        word = 46 ∷ t.word;
        parts = begins bytes 46 (omega arith) (eqb-true _ _ c.0) ∙ ap (λ (w : List ℕ). 46 ∷ w) t.parts;
        is = (ap (λ (w : List ℕ). 46 ∷ w) t.is.same ∙ fraction_of_some x.0 t.is.some, t.is.all);
      }
  | inr c ↦ Sound-at FractionIs bytes ([], bytes) x (ok_is ([], bytes) x c.1) (record { word = []; parts = refl; is = (refl, refl) })
]

sign_is : (b : ℕ) → is_sign b ≡ true → IsSign (b ∷ []) (eqb b 45)
sign_is b e = elim (or_cases _ _ e) [
  | inl plus ↦ inl (eqb-true _ _ plus, rw (eqb-true b 43 plus) refl)
  | inr minus ↦ inr (eqb-true _ _ minus, minus)
]

no_sign : (b : ℕ) → is_sign b ≡ false → eqb b 45 ≡ false
no_sign b e = grind (arith, nat_tests)

pub mark_sound : (b : ℕ) → is_mark b ≡ true → (b ≡ 101) ⊎ (b ≡ 69)
mark_sound b e = elim (or_cases _ _ e) [
  | inl m ↦ inl (eqb-true _ _ m)
  | inr m ↦ inr (eqb-true _ _ m)
]

pub mark_some : (b : ℕ) → is_mark b ≡ true → 0 < b
mark_some b e = grind (arith, nat_tests)

-- a sign or none, and what follows it
pub sign_sound : (bytes : List ℕ) → (sign : List ℕ) × IsSign sign (eqb (first bytes) 45) × (bytes ≡ sign ++ after_sign bytes)
sign_sound [] = ([], refl, refl)
sign_sound (b ∷ rest) = elim (cases_Bool (is_sign b)) [
  | inl e ↦ (b ∷ [], sign_is b e, ap (λ (t : List ℕ). b ∷ t) (sym (cond-true _ rest (b ∷ rest) e)))
  | inr e ↦ ([], no_sign b e, sym (cond-false _ rest (b ∷ rest) e))
]

abbrev ExponentIs : ℤ → List ℕ → Type 0
ExponentIs n word = IsExponent word n

exponent_sound : Sound ExponentIs exponent_at
unfolding exponent_at signed_at
exponent_sound bytes x e =
    let digits = digits_at (after_sign (drop 1 bytes)) in
    let made : List ℕ × List ℕ → Read ℤ = λ y. Ok (signed (eqb (first (drop 1 bytes)) 45) (number_of y.0), y.1) in
    elim (chosen (is_mark (first bytes)) (digits >>= made) (Ok (pos 0, bytes)) (Ok x) e) [
      | inl c ↦
          let b = bind_ok digits made x c.1 in
          let t = digits_at-sound (after_sign (drop 1 bytes)) b.0 b.1 in
          let s = sign_sound (drop 1 bytes) in
          let mark = mark_sound (first bytes) c.0 in
          let whole : bytes ≡ (first bytes ∷ s.0 ++ t.word) ++ b.0.1 = begins bytes (first bytes) (mark_some (first bytes) c.0) refl
          ∙ ap (λ (w : List ℕ). first bytes ∷ w) (s.2 ∙ ap (λ (w : List ℕ). s.0 ++ w) t.parts ∙ sym (append_assoc s.0 t.word b.0.1)) in
          let n = signed (eqb (first (drop 1 bytes)) 45) (number_of b.0.0) in
          Sound-at ExponentIs bytes (n, b.0.1) x (ok_is (n, b.0.1) x b.2)
          (record {
            word = first bytes ∷ s.0 ++ t.word;
            parts = whole;
            is = (
              mark,
              record {
                sign = s.0;
                minus = eqb (first (drop 1 bytes)) 45;
                digits = b.0.0;
                is_sign = s.1;
                some = t.is.some;
                all_digits = t.is.all;
                joined = ap (λ (w : List ℕ). s.0 ++ w) t.is.same;
                value = refl;
              },
            );
          })
      | inr c ↦ Sound-at ExponentIs bytes (pos 0, bytes) x (ok_is (pos 0, bytes) x c.1) (record { word = []; parts = refl; is = refl })
    ]

pub minus_sound : (bytes : List ℕ) → bytes ≡ sign_text (eqb (first bytes) 45) ++ after_minus bytes
minus_sound [] = refl
minus_sound (b ∷ rest) = elim (cases_Bool (eqb b 45)) [
  | inl e ↦ rw (e, eqb-true _ _ e) refl
  | inr e ↦ rw e refl
]

abbrev pub NumberIs : Parts → List ℕ → Type 0
NumberIs p word = Spells word p

pub parts_sound : Sound NumberIs parts_at
unfolding parts_at
parts_sound bytes x e =
    let minus = eqb (first bytes) 45 in
    let made : List ℕ → List ℕ → (ℤ × List ℕ) → Read Parts =
    λ whole fraction z. Ok (record { minus = minus; whole = whole; fraction = fraction; exponent = z.0 }, z.1) in
    let a = bind_ok (whole_at (after_minus bytes)) (λ w. fraction_at w.1 >>= λ f. exponent_at f.1 >>= made w.0 f.0) x e in
    let b = bind_ok (fraction_at a.0.1) (λ f. exponent_at f.1 >>= made a.0.0 f.0) x a.2 in
    let c = bind_ok (exponent_at b.0.1) (made a.0.0 b.0.0) x b.2 in
    let s = whole_sound (after_minus bytes) a.0 a.1 in
    let t = fraction_sound a.0.1 b.0 b.1 in
    let u = exponent_sound b.0.1 c.0 c.1 in
    let p : Parts = record { minus = minus; whole = a.0.0; fraction = b.0.0; exponent = c.0.0 } in
    let word : List ℕ = sign_text minus ++ a.0.0 ++ fraction_text b.0.0 ++ u.word in
    let whole : bytes ≡ word ++ c.0.1 =
    minus_sound bytes ∙ ap (λ (w : List ℕ). sign_text minus ++ w) (s.parts ∙ ap (λ (w : List ℕ). w ++ a.0.1) s.is.0
    ∙ ap (λ (w : List ℕ). a.0.0 ++ w) (t.parts ∙ ap (λ (w : List ℕ). w ++ b.0.1) t.is.0
    ∙ ap (λ (w : List ℕ). fraction_text b.0.0 ++ w) u.parts))
    ∙ simp append_assoc in
    Sound-at NumberIs bytes (p, c.0.1) x (ok_is (p, c.0.1) x c.2) (record {
      word = word;
      parts = whole;
      is = record { exponent_text = u.word; whole = s.is.1; fraction = t.is.1; exponent = u.is; joined = refl };
    })

-- ---- numbers

-- what was read is a number at the front
pub decimal_parts : (bytes rest : List ℕ) (v : Option ℤ) → decimal_at bytes ≡ Ok (v, rest)
    → (p : Parts) × (parts_at bytes ≡ Ok (p, rest)) × (in_range (decimal_value p) ≡ v)
unfolding decimal_at
decimal_parts bytes rest v e =
    let b = bind_ok (parts_at bytes) (λ x. Ok (in_range (decimal_value x.0), x.1)) (v, rest) e in
    let same = ok_is (in_range (decimal_value b.0.0), b.0.1) (v, rest) b.2 in
    let left : (Option ℤ × List ℕ) → List ℕ = λ x. x.1 in
    let right : (Option ℤ × List ℕ) → Option ℤ = λ x. x.0 in
    (b.0.0, b.1 ∙ same_ok _ _ _ _ refl (ap left same), ap right same)

pub front_is_spelled : (bytes rest : List ℕ) (v : Option ℤ) → decimal_at bytes ≡ Ok (v, rest) → IsAtFront bytes rest v
front_is_spelled bytes rest v e =
    let d = decimal_parts bytes rest v e in
    let t = parts_sound bytes (d.0, rest) d.1 in
    record { word = t.word; value = decimal_value d.0; joined = t.parts; spelled = (d.0, t.is, refl); number = sym d.2 }

pub spelled_is_front : (word rest : List ℕ) (m : ℤ) → Reads word m → ends_number (first rest) ≡ true
    → decimal_at (word ++ rest) ≡ Ok (in_range m, rest)
unfolding decimal_at
spelled_is_front word rest m r e =
    let again = parts_again word rest r.0 r.1 e in
    rw (again, sym r.2) refl

one_number : (word : List ℕ) (p q : Parts) → Spells word p → Spells word q → p ≡ q
one_number word p q s t =
    let parts : (Parts × List ℕ) → Parts = λ x. x.0 in
    let a = parts_again word [] p s refl in
    let b = parts_again word [] q t refl in
    ap parts (ok_is (p, []) (q, []) (sym a ∙ b))

-- bytes are one number at most
pub reads_one : (bytes : List ℕ) (m n : ℤ) → Reads bytes m → Reads bytes n → m ≡ n
reads_one bytes m n x y = x.2 ∙ ap decimal_value (one_number bytes x.0 y.0 x.1 y.1) ∙ sym y.2

-- what the reader answers

pub front_parts : (bytes rest : List ℕ) (p : Parts) → Ok (p, rest) ≡ parts_at bytes → Takes NumberIs bytes (p, rest)
front_parts bytes rest p e = parts_sound bytes (p, rest) (sym e)

pub front_value : (bytes rest : List ℕ) (p : Parts) (v : Option ℤ) → Ok (p, rest) ≡ parts_at bytes
    → SomeIff v (IsNumber (decimal_value p)) (decimal_value p) → Ok (v, rest) ≡ decimal_at bytes
unfolding decimal_at
front_value bytes rest p v e k = rw (sym e, in_range_from_exact v (decimal_value p) k) refl

pub front_stop : (bytes : List ℕ) (left : ℕ) → Err left ≡ parts_at bytes → Err left ≡ decimal_at bytes
unfolding decimal_at
front_stop bytes left e = rw (sym e) refl

-- the bytes are a number of these millionths, or of some that are out of range
record IsWholeNumber (bytes : List ℕ) (v : Option ℤ) : Type 0 where
  value : ℤ
  spelled : Reads bytes value
  number : v ≡ in_range value

nothing : (xs : List ℕ) → length xs < 1 → xs ≡ []
nothing [] h = refl
nothing (x ∷ xs) h = absurd (omega arith)

whole_number : (bytes rest : List ℕ) (v : Option ℤ) → Ok (v, rest) ≡ decimal_at bytes → length rest < 1 → IsWholeNumber bytes v
whole_number bytes rest v e h =
    let f = front_is_spelled bytes rest v (sym e) in
    let same : bytes ≡ f.word = f.joined ∙ ap (λ (r : List ℕ). f.word ++ r) (nothing rest h) ∙ append-nil f.word in
    record { value = f.value; spelled = subst (λ (w : List ℕ). Reads w f.value) (sym same) f.spelled; number = f.number }

-- a number is found whole
whole_found : (bytes : List ℕ) (p : Parts) → Spells bytes p → decimal_at bytes ≡ Ok (in_range (decimal_value p), [])
whole_found bytes p s = ap decimal_at (sym (append-nil bytes)) ∙ spelled_is_front bytes [] (decimal_value p) (p, s, refl) refl

-- bytes of which more is left, or where nothing goes on, are no number
pub more_left : (bytes rest : List ℕ) (v : Option ℤ) → Ok (v, rest) ≡ decimal_at bytes → 1 ≤ length rest → IsJsonNumber bytes → ⊥
more_left bytes rest v e some n =
    let left : (Option ℤ × List ℕ) → List ℕ = λ x. x.1 in
    let none : rest ≡ [] = ap left (ok_is (v, rest) (in_range (decimal_value n.0), []) (e ∙ whole_found bytes n.0 n.1)) in
    absurd (omega (arith, ap length none))

pub stopped : (bytes : List ℕ) (left : ℕ) → Err left ≡ decimal_at bytes → IsJsonNumber bytes → ⊥
stopped bytes left e n = let same = e ∙ whole_found bytes n.0 n.1 in absurd cc

some_is : (m n : ℤ) → Some n ≡ in_range m → (n ≡ m) × IsNumber m
some_is m n e = elim (is_number_or_not m) [
  | inl k ↦ (same_Some n m (e ∙ in_range_at_number m k), k)
  | inr none ↦ absurd (none-some n (sym (e ∙ in_range_elsewhere m none)))
]

none_is : (m : ℤ) → None ≡ in_range m → IsNumber m → ⊥
none_is m e k = none-some m (e ∙ in_range_at_number m k)

-- the answer on bytes that are a number
pub record Answers (bytes : List ℕ) (r : Result ℤ NumFault) : Type 0 where
  pub number : IfOk r (λ n. Reads bytes n)
  pub shape : IsErrOf r Shape ↔ ¬ IsJsonNumber bytes
  pub range : IsErrOf r Range ↔ ((m : ℤ) × Reads bytes m × ¬ IsNumber m)

answer : (bytes : List ℕ) (v : Option ℤ) → IsWholeNumber bytes v → Answers bytes (ok_or v Range)
answer bytes None w = record {
  number = tt;
  shape = (λ e. absurd cc, λ none. absurd (none (w.spelled.0, w.spelled.1)));
  range = (λ e. (w.value, w.spelled, none_is w.value w.number), λ x. refl);
}
answer bytes (Some n) w =
    let k = some_is w.value n w.number in
    record {
      number = subst (λ (m : ℤ). Reads bytes m) (sym k.0) w.spelled;
      shape = (λ e. absurd cc, λ none. absurd (none (w.spelled.0, w.spelled.1)));
      range = (λ e. absurd cc, λ x. absurd (x.2 (subst IsNumber (reads_one bytes w.value x.0 w.spelled x.1) k.1)));
    }

pub answers : (bytes rest : List ℕ) (v : Option ℤ) (r : Result ℤ NumFault) → Ok (v, rest) ≡ decimal_at bytes → length rest < 1
    → r ≡ ok_or v Range → Answers bytes r
answers bytes rest v r e h same = subst (Answers bytes) (sym same) (answer bytes v (whole_number bytes rest v e h))
