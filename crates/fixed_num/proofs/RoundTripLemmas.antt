-- What is written of a number is read as that number.
use Rattle.std.proofs.Common.{◌≡◌, ℕ, zero, suc, ◌+◌, ◌-◌, ◌*◌, ◌/◌, ◌%◌, ◌^◌, ◌<◌, ◌≤◌, List, [], ◌∷◌, ◌++◌, length, ℤ, pos, negsuc, Bool}
use Rattle.std.proofs.Common.{true, false, ne_eqb, ◌⊎◌, inl, inr, ⊎_elim, subst, ◌&&◌, append_assoc, arith, rules, sym, refl, ap, ◌∙◌}
use Rattle.std.specs.List.{list_all}
use Rattle.std.specs.Char.{is_ascii_digit}
use Rattle.std.proofs.lemmas.Nat.{pow-add, div-add-mod', mod_below}
use Rattle.std.proofs.lemmas.List.{append-nil}
use Rattle.std.proofs.lemmas.Bool.Decides.{nat_tests}
use Rattle.std.specs.Fmt.{decimal, sign_text}
use Rattle.std.proofs.lemmas.Int.{ints}
use Rattle.std.proofs.lemmas.Str.Parse.{IsNumeralModel, numerals_by_weight}
use Rattle.std.proofs.lemmas.Fmt.{digits_decimal, digits_value-decimal, decimal_digit, first_decimal, decimal_nonempty}
use Rattle.fixed_num.proofs.DigitLemmas.{ten_pos, number_append}
use Rattle.fixed_num.proofs.ScaleLemmas.{scaled_to_right}
use Rattle.fixed_num.proofs.SpellingLemmas.{first_below_ten, first_place, fraction_digits_none}
use Rattle.fixed_num.specs.Number.{limit, million, IsNumber, signed}
use Rattle.fixed_num.specs.Decimal.{fraction_digits, fraction_spelling, size_spelling, spelling}
use Rattle.fixed_num.specs.JsonNumber.{Parts, Spells, IsWhole, AreDigits, Reads, number_of, decimal_value, fraction_text}

zero_or_more : (n : ℕ) → (n ≡ 0) ⊎ (0 < n)
zero_or_more zero = inl refl
zero_or_more (suc n) = inr (omega arith)

own : IsNumeralModel AreDigits number_of
own = numerals_by_weight AreDigits (search rules) number_of (search rules)

-- ---- the whole part

whole_decimal : (n : ℕ) → n < 2 ^ 64 → IsWhole (decimal n)
whole_decimal n h = record {
  some = λ e. absurd (omega (arith, decimal_nonempty n h, ap length e));
  digits = digits_decimal own n h;
  leading_zero = λ z. ⊎_elim (λ (e : n ≡ 0). ap decimal e ∙ decimal_digit 0 (omega arith))
      (λ (g : 0 < n). absurd (omega (arith, first_decimal n g h, z))) (zero_or_more n);
}

-- ---- the fraction

-- digits behind a point are so many of these places, and no more than these
record IsFraction (places n : ℕ) (ds : List ℕ) : Type 0 where
  digits : AreDigits ds
  short : length ds ≤ places
  value : number_of ds * 10 ^ (places - length ds) ≡ n

digit_of : (d : ℕ) → d < 10 → is_ascii_digit (48 + d) ≡ true
digit_of d h = grind (arith, nat_tests)

IsFraction-cons : (k n : ℕ) (ds : List ℕ) → n < 10 ^ suc k → IsFraction k (n % 10 ^ k) ds → IsFraction (suc k) n ((48 + n / 10 ^ k) ∷ ds)
IsFraction-cons k n ds h f =
    let less : suc k - suc (length ds) ≡ k - length ds = omega arith in
    let power : 10 ^ length ds * 10 ^ (k - length ds) ≡ 10 ^ k =
    sym (pow-add 10 (length ds) (k - length ds)) ∙ ap (λ x. 10 ^ x) (omega (arith, f.short)) in
    let number : number_of ((48 + n / 10 ^ k) ∷ ds) ≡ n / 10 ^ k * 10 ^ length ds + number_of ds =
    ap (λ x. x * 10 ^ length ds + number_of ds) (omega arith) in
    record {
      digits = ap (λ b. b && list_all is_ascii_digit ds) (digit_of (n / 10 ^ k) (first_below_ten k n h)) ∙ f.digits;
      short = omega (arith, f.short);
      value = ap (λ x. number_of ((48 + n / 10 ^ k) ∷ ds) * 10 ^ x) less ∙ ap (λ x. x * 10 ^ (k - length ds)) number
          ∙ omega (arith, f.value, ap (λ x. n / 10 ^ k * x) power, div-add-mod' n (10 ^ k));
    }

IsFraction-none : (places : ℕ) → IsFraction places 0 []
IsFraction-none places = record { digits = refl; short = omega arith; value = omega arith }

IsFraction-at : (places n : ℕ) → n < 10 ^ places → IsFraction places n (fraction_digits places n)
unfolding fraction_digits
IsFraction-at zero n h = record { digits = refl; short = omega arith; value = omega arith }
IsFraction-at (suc k) n h =
    ⊎_elim (λ (e : n ≡ 0). subst (λ m. IsFraction (suc k) m (fraction_digits (suc k) m)) (sym e)
    (subst (IsFraction (suc k) 0) (sym (fraction_digits_none (suc k))) (IsFraction-none (suc k))))
    (λ (g : 0 < n). subst (IsFraction (suc k) n) (sym (first_place k n g h))
    (IsFraction-cons k n (fraction_digits k (n % 10 ^ k)) h (IsFraction-at k (n % 10 ^ k) (mod_below n (10 ^ k) (ten_pos k)))))
    (zero_or_more n)

fraction_spelled : (n : ℕ) → n < million → fraction_spelling n ≡ fraction_text (fraction_digits 6 n)
unfolding fraction_spelling
fraction_spelled n h =
    ⊎_elim (λ (e : n ≡ 0). rw e (sym (ap fraction_text (fraction_digits_none 6)))) (λ (g : 0 < n). let first = first_place 5 n g h in
    rw (ne_eqb n 0 (λ e. absurd (omega (arith, e, g)))) (ap (λ t. 46 ∷ t) first ∙ sym (ap fraction_text first))) (zero_or_more n)

-- ---- the number

abbrev number_parts : Bool → ℕ → Parts
number_parts minus n = record { minus = minus; whole = decimal (n / million); fraction = fraction_digits 6 (n % million); exponent = pos 0 }

number_spelled : (minus : Bool) (n : ℕ) → n ≤ limit → Spells (sign_text minus ++ size_spelling n) (number_parts minus n)
unfolding size_spelling
number_spelled minus n h =
    let small : n / million < 2 ^ 64 = omega arith in
    let below : n % million < million = omega arith in
    record {
      exponent_text = [];
      whole = whole_decimal (n / million) small;
      fraction = (IsFraction-at 6 (n % million) below).digits;
      exponent = refl;
      joined = ap (λ t. sign_text minus ++ (decimal (n / million) ++ t)) (fraction_spelled (n % million) below)
          ∙ sym (append_assoc (sign_text minus) (decimal (n / million)) (fraction_text (fraction_digits 6 (n % million))))
          ∙ sym (append-nil (sign_text minus ++ decimal (n / million) ++ fraction_text (fraction_digits 6 (n % million))));
    }

number_value : (minus : Bool) (n : ℕ) → n ≤ limit → signed minus n ≡ decimal_value (number_parts minus n)
unfolding decimal_value
number_value minus n h =
    let small : n / million < 2 ^ 64 = omega arith in
    let below : n % million < million = omega arith in
    let f = fraction_digits 6 (n % million) in
    let w = decimal (n / million) in
    let fraction = IsFraction-at 6 (n % million) below in
    let six : length f + (6 - length f) ≡ 6 = omega (arith, fraction.short) in
    let power : 10 ^ length f * 10 ^ (6 - length f) ≡ million = sym (pow-add 10 (length f) (6 - length f)) ∙ ap (λ x. 10 ^ x) six in
    let number : number_of (w ++ f) ≡ n / million * 10 ^ length f + number_of f =
    number_append w f ∙ ap (λ x. x * 10 ^ length f + number_of f) (digits_value-decimal own (n / million) small) in
    let whole : number_of (w ++ f) * 10 ^ (6 - length f) ≡ n =
    ap (λ x. x * 10 ^ (6 - length f)) number ∙ omega (arith, fraction.value, ap (λ x. n / million * x) power, div-add-mod' n million) in
    ap (signed minus) (sym whole) ∙ scaled_to_right minus (number_of (w ++ f)) _ (6 - length f) (omega (arith, ints, fraction.short))

-- what is written of a number is read as that number
pub written_is_read : (m : ℤ) → IsNumber m → Reads (spelling m) m
unfolding spelling
written_is_read (pos n) h =
    let small : n ≤ limit = omega (arith, ints, h) in
    (number_parts false n, number_spelled false n small, number_value false n small)
written_is_read (negsuc n) h =
    let small : suc n ≤ limit = omega (arith, ints, h) in
    (number_parts true (suc n), number_spelled true (suc n) small, number_value true (suc n) small)
