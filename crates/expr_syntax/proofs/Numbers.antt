-- The bytes of a number at the front, and its value.
use Rattle.std.proofs.Common.{◌≡◌, ◌≢◌, ℕ, ◌+◌, ◌<◌, ◌≤◌, Bool, true, false, eqb, ◌||◌, List, [], ◌∷◌, ◌++◌, length, take, drop, get_or}
use Rattle.std.proofs.Common.{length-append, ℤ, Ok, Err, Option, Some, None, refl, sym, ap, subst, ◌∙◌, arith}
use Rattle.std.proofs.Common.{inl, inr, append_assoc}
use Rattle.std.specs.Prelude.{IsErrOf}
use Rattle.std.specs.Fmt.{sign_text}
use Rattle.std.specs.List.{list_all}
use Rattle.std.specs.Char.{is_ascii_digit}
use Rattle.std.specs.Str.{IsUtf8, IsAscii, IsCharBoundary}
use Rattle.std.proofs.lemmas.Bool.{cases_Bool, cond-true, cond-false}
use Rattle.std.proofs.lemmas.List.{take_at, drop_at, drop_all, drop_more}
use Rattle.std.proofs.lemmas.Bool.Decides.{nat_tests}
use Rattle.std.proofs.lemmas.Str.Ascii.{IsAscii-nil, IsAscii-cons}
use Rattle.fixed_num.proofs.DigitLemmas.{both_true}
use Rattle.expr_syntax.proofs.NumberTexts.{parts_found, parts_sound}
use Rattle.fixed_num.proofs.Numerals.{reads_one}
use Rattle.fixed_num.specs.declared.reading.NumFault.{NumFault}
use Rattle.fixed_num.specs.declared.reading.NumFault.TheVariants.{Shape, Range}
use Rattle.fixed_num.specs.Number.{IsNumber}
use Rattle.expr_syntax.specs.NumberText.{parts_of}
use Rattle.fixed_num.specs.JsonNumber.{IsJsonNumber, Reads, decimal_value, Parts, Spells, IsWhole, IsExponent, AreDigits, IsSign, fraction_text}
use Rattle.expr_syntax.specs.Tokens.{is_name_byte, BeginsWithout}
use Rattle.fixed_num.specs.Ranges.{◌>>=◌, in_range}
use Rattle.fixed_num.specs.Front.{first}
use Rattle.fixed_num.proofs.RangeLemmas.{in_range_at_number, in_range_elsewhere, is_number_or_not}
use Rattle.expr_syntax.specs.inner.Scanner.{belongs, is_exponent_mark, number_len, number_in, number_with, number_at}
use Rattle.expr_syntax.proofs.Steps.{done, ok_is}
use Rattle.expr_syntax.specs.declared.token.Token.{Token}
use Rattle.expr_syntax.specs.declared.token.Token.TheVariants.{Number}
use Rattle.expr_syntax.proofs.Cuts.{one_more, cut_behind}

-- ---- how far a number reaches

-- a byte that may not follow a number directly
abbrev pub adheres : ℕ → Bool
adheres b = is_name_byte b || eqb b 46

belongs-ascii : (behind : Bool) (b : ℕ) → belongs behind b ≡ true → b < 128
belongs-ascii true b e = grind (arith, nat_tests)
belongs-ascii false b e = grind (arith, nat_tests)

pub number_len-more : (behind : Bool) (b : ℕ) (bytes : List ℕ) → belongs behind b ≡ true
    → number_len behind (b ∷ bytes) ≡ 1 + number_len (is_exponent_mark b) bytes
number_len-more behind b bytes e = cond-true (belongs behind b) (1 + number_len (is_exponent_mark b) bytes) 0 e

pub number_len-ends : (behind : Bool) (b : ℕ) (bytes : List ℕ) → belongs behind b ≡ false → number_len behind (b ∷ bytes) ≡ 0
number_len-ends behind b bytes e = cond-false (belongs behind b) (1 + number_len (is_exponent_mark b) bytes) 0 e

pub number_le : (behind : Bool) (bytes : List ℕ) → number_len behind bytes ≤ length bytes
number_le behind [] = omega arith
number_le behind (b ∷ bytes) = elim (cases_Bool (belongs behind b)) [
  | inl e ↦ rw (number_len-more behind b bytes e) (omega (arith, number_le (is_exponent_mark b) bytes))
  | inr e ↦ rw (number_len-ends behind b bytes e) (omega arith)
]

number_ascii : (behind : Bool) (bytes : List ℕ) → IsAscii (take (number_len behind bytes) bytes)
number_ascii behind [] = IsAscii-nil
number_ascii behind (b ∷ bytes) = elim (cases_Bool (belongs behind b)) [
  | inl e ↦ rw (number_len-more behind b bytes e, one_more (number_len (is_exponent_mark b) bytes))
      (IsAscii-cons b _ (belongs-ascii behind b e) (number_ascii (is_exponent_mark b) bytes))
  | inr e ↦ rw (number_len-ends behind b bytes e) IsAscii-nil
]

pub cut_behind_number : (bytes : List ℕ) → IsUtf8 bytes → IsCharBoundary bytes (number_len false bytes)
cut_behind_number bytes u = cut_behind bytes (number_len false bytes) u (number_le false bytes) (number_ascii false bytes)

adheres-belongs : (behind : Bool) (b : ℕ) → belongs behind b ≡ false → adheres b ≡ false
adheres-belongs true b e = grind (arith, nat_tests)
adheres-belongs false b e = grind (arith, nat_tests)

-- what comes behind may follow a number
pub number_ends : (behind : Bool) (bytes : List ℕ) → BeginsWithout adheres (drop (number_len behind bytes) bytes)
number_ends behind [] = tt
number_ends behind (b ∷ bytes) = elim (cases_Bool (belongs behind b)) [
  | inl e ↦ rw (number_len-more behind b bytes e, one_more (number_len (is_exponent_mark b) bytes)) (number_ends (is_exponent_mark b) bytes)
  | inr e ↦ rw (number_len-ends behind b bytes e) (adheres-belongs behind b e)
]

-- ---- a spelled number reaches to its end

stops : (b : ℕ) → adheres b ≡ false → belongs false b ≡ false
stops b e = grind (arith, nat_tests)

at_end : (rest : List ℕ) → BeginsWithout adheres rest → number_len false rest ≡ 0
at_end [] w = refl
at_end (b ∷ rest) w = number_len-ends false b rest (stops b w)

digit_belongs : (behind : Bool) (d : ℕ) → is_ascii_digit d ≡ true → belongs behind d ≡ true
digit_belongs true d e = grind (arith, nat_tests)
digit_belongs false d e = grind (arith, nat_tests)

digit_no_mark : (d : ℕ) → is_ascii_digit d ≡ true → is_exponent_mark d ≡ false
digit_no_mark d e = grind (arith, nat_tests)

-- over digits
over_digits : (ds rest : List ℕ) → AreDigits ds → number_len false (ds ++ rest) ≡ length ds + number_len false rest
over_digits [] rest a = omega arith
over_digits (d ∷ ds) rest a =
    let b = both_true (is_ascii_digit d) (list_all is_ascii_digit ds) a in
    number_len-more false d (ds ++ rest) (digit_belongs false d b.0)
    ∙ ap (λ (m : Bool). 1 + number_len m (ds ++ rest)) (digit_no_mark d b.0) ∙ ap (λ n. 1 + n) (over_digits ds rest b.1) ∙ omega arith

-- over digits behind an `e`
over_some_digits : (behind : Bool) (ds rest : List ℕ) → ds ≢ [] → AreDigits ds
    → number_len behind (ds ++ rest) ≡ length ds + number_len false rest
over_some_digits behind [] rest some a = absurd (some refl)
over_some_digits behind (d ∷ ds) rest some a =
    let b = both_true (is_ascii_digit d) (list_all is_ascii_digit ds) a in
    number_len-more behind d (ds ++ rest) (digit_belongs behind d b.0)
    ∙ ap (λ (m : Bool). 1 + number_len m (ds ++ rest)) (digit_no_mark d b.0) ∙ ap (λ n. 1 + n) (over_digits ds rest b.1) ∙ omega arith

-- over a point and digits, or nothing
over_fraction : (ds rest : List ℕ) → AreDigits ds
    → number_len false (fraction_text ds ++ rest) ≡ length (fraction_text ds) + number_len false rest
over_fraction [] rest a = omega arith
over_fraction (d ∷ ds) rest a = number_len-more false 46 (d ∷ ds ++ rest) refl ∙ ap (λ n. 1 + n) (over_digits (d ∷ ds) rest a) ∙ omega arith

over_signed : (sign ds rest : List ℕ) (minus : Bool) → IsSign sign minus → ds ≢ [] → AreDigits ds
    → number_len true (sign ++ ds ++ rest) ≡ length sign + length ds + number_len false rest
over_signed [] ds rest minus s some a = over_some_digits true ds rest some a ∙ omega arith
over_signed (c ∷ []) ds rest minus s some a =
    let sign : (belongs true c ≡ true) × (is_exponent_mark c ≡ false) = elim s [
      | inl plus ↦ rw plus.0 (refl, refl)
      | inr dash ↦ rw dash.0 (refl, refl)
    ] in
    number_len-more true c (ds ++ rest) sign.0 ∙ ap (λ (m : Bool). 1 + number_len m (ds ++ rest)) sign.1
    ∙ ap (λ n. 1 + n) (over_some_digits false ds rest some a) ∙ omega arith
over_signed (c ∷ d ∷ sign) ds rest minus s some a = absurd s

over_exponent : (text rest : List ℕ) (e : ℤ) → IsExponent text e → BeginsWithout adheres rest
    → number_len false (text ++ rest) ≡ length text
over_exponent [] rest e x w = at_end rest w
over_exponent (mark ∷ text) rest e x w =
    let m : (belongs false mark ≡ true) × (is_exponent_mark mark ≡ true) = elim x.0 [
      | inl small ↦ rw small (refl, refl)
      | inr capital ↦ rw capital (refl, refl)
    ] in
    let d = x.1 in
    let more : text ++ rest ≡ d.sign ++ d.digits ++ rest = ap (λ (t : List ℕ). t ++ rest) d.joined in
    number_len-more false mark (text ++ rest) m.0 ∙ ap (λ (k : Bool). 1 + number_len k (text ++ rest)) m.1
    ∙ ap (λ (t : List ℕ). 1 + number_len true t) more
    ∙ ap (λ n. 1 + n) (over_signed d.sign d.digits rest d.minus d.is_sign d.some d.all_digits)
    ∙ omega (arith, at_end rest w, ap length d.joined, length-append d.sign d.digits)

-- a number without a sign, by its parts
record IsUnsigned (word : List ℕ) (p : Parts) : Type 0 where
  exponent_text : List ℕ
  whole : IsWhole p.whole
  fraction : AreDigits p.fraction
  exponent : IsExponent exponent_text p.exponent
  joined : word ≡ p.whole ++ fraction_text p.fraction ++ exponent_text
  minus : p.minus ≡ false

no_sign : (word whole others : List ℕ) (minus : Bool) → word ≡ sign_text minus ++ whole ++ others → get_or word 0 0 ≢ 45 → minus ≡ false
no_sign word whole others true e n = absurd (n (ap (λ (w : List ℕ). get_or w 0 0) e))
no_sign word whole others false e n = refl

unsigned : (word : List ℕ) (p : Parts) → Spells word p → get_or word 0 0 ≢ 45 → IsUnsigned word p
unsigned word p s n =
    let regrouped : word ≡ sign_text p.minus ++ p.whole ++ (fraction_text p.fraction ++ s.exponent_text) =
    s.joined ∙ append_assoc (sign_text p.minus ++ p.whole) (fraction_text p.fraction) s.exponent_text in
    let minus : p.minus ≡ false = no_sign word p.whole (fraction_text p.fraction ++ s.exponent_text) p.minus regrouped n in
    record {
      exponent_text = s.exponent_text;
      whole = s.whole;
      fraction = s.fraction;
      exponent = s.exponent;
      joined = s.joined ∙ ap (λ (b : Bool). sign_text b ++ p.whole ++ fraction_text p.fraction ++ s.exponent_text) minus;
      minus = minus;
    }

-- it reaches to its end, and it begins with a digit
pub number_is : (word rest : List ℕ) (p : Parts) → Spells word p → get_or word 0 0 ≢ 45 → BeginsWithout adheres rest
    → number_len false (word ++ rest) ≡ length word
number_is word rest p s n w =
    let u = unsigned word p s n in
    let f = fraction_text p.fraction in
    let all : word ++ rest ≡ p.whole ++ (f ++ (u.exponent_text ++ rest)) =
    ap (λ (t : List ℕ). t ++ rest) u.joined ∙ simp append_assoc refl in
    ap (number_len false) all ∙ over_digits p.whole _ u.whole.digits
    ∙ ap (λ k. length p.whole + k)
    (over_fraction p.fraction _ u.fraction ∙ ap (λ k. length f + k) (over_exponent u.exponent_text rest p.exponent u.exponent w))
    ∙ omega (arith, ap length u.joined, length-append (p.whole ++ f) u.exponent_text, length-append p.whole f)

first_of_digits : (ds rest : List ℕ) → ds ≢ [] → AreDigits ds → is_ascii_digit (get_or (ds ++ rest) 0 0) ≡ true
first_of_digits [] rest some a = absurd (some refl)
first_of_digits (d ∷ ds) rest some a = (both_true (is_ascii_digit d) (list_all is_ascii_digit ds) a).0

pub number_begins : (word rest : List ℕ) (p : Parts) → Spells word p → get_or word 0 0 ≢ 45 → is_ascii_digit (first (word ++ rest)) ≡ true
number_begins word rest p s n =
    let u = unsigned word p s n in
    let f = fraction_text p.fraction in
    let all : word ++ rest ≡ p.whole ++ (f ++ (u.exponent_text ++ rest)) =
    ap (λ (t : List ℕ). t ++ rest) u.joined ∙ simp append_assoc refl in
    ap (λ (t : List ℕ). is_ascii_digit (get_or t 0 0)) all ∙ first_of_digits p.whole _ u.whole.some u.whole.digits

-- ---- its value

-- a number that is not out of range is in range
pub is_number : (m : ℤ) → ((IsNumber m → ⊥) → ⊥) → IsNumber m
is_number m h = elim (is_number_or_not m) [
  | inl k ↦ k
  | inr none ↦ absurd (h none)
]

-- the word that is read is a number in range
pub record Stands (word rest : List ℕ) (x : Token × List ℕ) : Type 0 where
  pub number : ℤ
  pub token : x ≡ (Number number, rest)
  pub reads : Reads word number
  pub fits : IsNumber number

-- the number of some parts, if it is in range
abbrev valued : Option Parts → Option ℤ
valued parts = parts >>= λ p. in_range (decimal_value p)

none_here : (rest : List ℕ) (x : Token × List ℕ) → number_with None rest ≡ Ok x → ⊥
none_here rest x e = absurd cc

number_with-ok : (o : Option Parts) (rest : List ℕ) (x : Token × List ℕ) → number_with (valued o) rest ≡ Ok x
    → (p : Parts) × (o ≡ Some p) × IsNumber (decimal_value p) × ((Number (decimal_value p), rest) ≡ x)
number_with-ok None rest x e = absurd cc
number_with-ok (Some p) rest x e = elim (is_number_or_not (decimal_value p)) [
  | inl k ↦ (p, refl, k, ok_is (Number (decimal_value p), rest) x (sym (ap (λ o. number_with o rest) (in_range_at_number (decimal_value p) k)) ∙ e))
  | inr out ↦ absurd (none_here rest x (sym (ap (λ o. number_with o rest) (in_range_elsewhere (decimal_value p) out)) ∙ e))
]

pub number_sound : (bytes : List ℕ) (x : Token × List ℕ) → number_at bytes ≡ Ok x
    → Stands (take (number_len false bytes) bytes) (drop (number_len false bytes) bytes) x
unfolding number_at
number_sound bytes x e =
    let a = number_with-ok (parts_of (take (number_len false bytes) bytes)) (drop (number_len false bytes) bytes) x e in
    record {
      number = decimal_value a.0;
      token = sym a.3;
      reads = (a.0, parts_sound (take (number_len false bytes) bytes) a.0 a.1, refl);
      fits = a.2;
    }

-- a number of so many bytes that is read
number_here : (bytes word rest : List ℕ) (m : ℤ) → take (number_len false bytes) bytes ≡ word → drop (number_len false bytes) bytes ≡ rest
    → Reads word m → IsNumber m → number_at bytes ≡ done (Number m, rest)
unfolding number_at
number_here bytes word rest m w r n k =
    ap (λ (t : List ℕ). number_with (number_in t) (drop (number_len false bytes) bytes)) w
    ∙ ap (λ (o : Option Parts). number_with (valued o) (drop (number_len false bytes) bytes)) (parts_found word n.0 n.1)
    ∙ ap (number_with (in_range (decimal_value n.0))) r
    ∙ ap (λ (o : Option ℤ). number_with o rest) (ap in_range (sym n.2) ∙ in_range_at_number m k)

pub number_again : (word rest : List ℕ) (m : ℤ) → Reads word m → IsNumber m → get_or word 0 0 ≢ 45 → BeginsWithout adheres rest
    → number_at (word ++ rest) ≡ done (Number m, rest)
number_again word rest m n k u w =
    let len = number_is word rest n.0 n.1 u w in
    number_here (word ++ rest) word rest m (take_at word rest _ (sym len)) (drop_at word rest _ (sym len)) n k

-- ---- what reading a word of the number tells

pub word_ok : (bytes : List ℕ) (m : ℤ) → Reads (take (number_len false bytes) bytes) m → IsNumber m
    → number_at bytes ≡ done (Number m, drop (number_len false bytes) bytes)
word_ok bytes m n k = number_here bytes _ _ m refl refl n k

no_parts : (o : Option Parts) (rest : List ℕ) → ((p : Parts) → o ≡ Some p → IsNumber (decimal_value p) → ⊥)
    → number_with (valued o) rest ≡ Err tt
no_parts None rest h = refl
no_parts (Some p) rest h = ap (λ (o : Option ℤ). number_with o rest) (in_range_elsewhere (decimal_value p) (h p refl))

-- a word that is no number in range
pub word_fault : (bytes : List ℕ) → ((m : ℤ) → Reads (take (number_len false bytes) bytes) m → IsNumber m → ⊥) → number_at bytes ≡ Err tt
unfolding number_at
word_fault bytes h =
    no_parts (parts_of (take (number_len false bytes) bytes)) (drop (number_len false bytes) bytes)
    (λ p e k. h (decimal_value p) (p, parts_sound _ p e, refl) k)

-- a word of a number that begins with a digit begins so
pub first_of_number : (bytes : List ℕ) → is_ascii_digit (first bytes) ≡ true
    → get_or (take (number_len false bytes) bytes) 0 0 ≡ first bytes
first_of_number [] e = absurd cc
first_of_number (b ∷ bytes) e =
    rw (number_len-more false b bytes (digit_belongs false b e), one_more (number_len (is_exponent_mark b) bytes)) refl

-- ---- a byte at a time

pub len_more : (behind : Bool) (bytes : List ℕ) (i : ℕ) → i < length bytes → belongs behind (get_or bytes i 0) ≡ true
    → number_len behind (drop i bytes) ≡ 1 + number_len (is_exponent_mark (get_or bytes i 0)) (drop (i + 1) bytes)
len_more behind bytes i l e =
    ap (number_len behind) (drop_more bytes i 0 l) ∙ number_len-more behind (get_or bytes i 0) (drop (i + 1) bytes) e

pub len_ends : (behind : Bool) (bytes : List ℕ) (i : ℕ) → i < length bytes → belongs behind (get_or bytes i 0) ≡ false
    → number_len behind (drop i bytes) ≡ 0
len_ends behind bytes i l e =
    ap (number_len behind) (drop_more bytes i 0 l) ∙ number_len-ends behind (get_or bytes i 0) (drop (i + 1) bytes) e

pub len_none : (behind : Bool) (bytes : List ℕ) (i : ℕ) → length bytes ≤ i → number_len behind (drop i bytes) ≡ 0
len_none behind bytes i l = ap (number_len behind) (drop_all i bytes l)

-- a word that can't be read is no number in range
pub no_number : (word : List ℕ) (fault : NumFault) → (IsErrOf {T = ℤ} (Err fault) Shape → IsJsonNumber word → ⊥)
    → (IsErrOf {T = ℤ} (Err fault) Range → (m : ℤ) × Reads word m × (IsNumber m → ⊥)) → (m : ℤ) → Reads word m → IsNumber m → ⊥
no_number word Shape shape range m r k = shape refl (r.0, r.1)
no_number word Range shape range m r k = let far = range refl in far.2 (subst IsNumber (reads_one word m far.0 r far.1) k)

-- a number without a sign has no minus
pub minus_of : (word : List ℕ) (p : Parts) → Spells word p → get_or word 0 0 ≢ 45 → p.minus ≡ false
minus_of word p s n = (unsigned word p s n).minus
