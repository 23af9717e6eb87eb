-- Forms and texts byte by byte.
use Rattle.std.proofs.Common.{◌≡◌, not, ℕ, zero, suc, ◌+◌, ◌-◌, ◌*◌, ◌^◌, ◌==◌, ◌||◌, drop, get_or, subst, filter, inl, inr, pow-suc}
use Rattle.std.proofs.Common.{mul-le-mul_left, mul-le-mul_right, ◌<◌, ◌≤◌, Bool, true, false, ◌&&◌, nat_le, nat_eq, cond, List, [], ◌∷◌}
use Rattle.std.proofs.Common.{length, map, find, Some, None, option_map, position, nat_lt, IfSome, refl, sym, ap, ◌∙◌, arith, Bor}
use Rattle.std.specs.List.{list_all, list_any, zip, position_or_len}
use Rattle.std.proofs.lemmas.Bool.{and_parts, and_right, true≢false, cases_eq, eqb-true, leb-true, eq-eqb, ne_eqb}
use Rattle.std.proofs.Math.Seq.{drop-cons}
use Rattle.fixed_num.specs.inner.Digits.{number_after}
use Rattle.fixed_num.proofs.DigitLemmas.{ten_pos}
use Rattle.std.specs.Char.{is_ascii_digit}
use Rattle.time_calc.specs.Forms.{digit_letters, stands_for, fits, forms, under, value}
use Rattle.time_calc.specs.inner.Forms.{is_short, are_short, IsFormOf, read_letters}

-- a form and a text of one length fit where each pair of bytes does
pub fits_by_pairs : (form text : List ℕ) → length form ≡ length text → fits form text ≡ list_all (λ p. stands_for p.0 p.1) (zip form text)
fits_by_pairs [] [] h = refl
fits_by_pairs [] (c ∷ text) h = absurd (omega (arith, h))
fits_by_pairs (f ∷ form) [] h = absurd (omega (arith, h))
fits_by_pairs (f ∷ form) (c ∷ text) h = ap (λ b. stands_for f c && b) (fits_by_pairs form text (omega (arith, h)))

-- of different lengths they don't fit
pub other_length : (form text : List ℕ) → (length form ≡ length text → ⊥) → fits form text ≡ false
other_length [] [] h = absurd (h refl)
other_length [] (c ∷ text) h = refl
other_length (f ∷ form) [] h = refl
other_length (f ∷ form) (c ∷ text) h =
    ap (λ b. stands_for f c && b) (other_length form text (λ e. h (omega (arith, e)))) ∙ and_right (stands_for f c) false refl

-- what is found by what references point to
pub found_now : (p : List ℕ → Bool) (xs : List (Bor (List ℕ))) →
    option_map (λ (x : Bor (List ℕ)). x.now) (find (λ (x : Bor (List ℕ)). p x.now) xs) ≡ find p (map (λ (x : Bor (List ℕ)). x.now) xs)
found_now p [] = refl
found_now p (x ∷ xs) =
    elim (p x.now) as (λ b. option_map (λ (x : Bor (List ℕ)). x.now) (cond b (Some x) (find (λ (x : Bor (List ℕ)). p x.now) xs))
    ≡ cond b (Some x.now) (find p (map (λ (x : Bor (List ℕ)). x.now) xs)))
    [ true ↦ refl | false ↦ found_now p xs ]

-- the place where what a reference points to passes
placed_at : (p : List ℕ → Bool) (xs : List (Bor (List ℕ))) →
    position_or_len (λ (x : Bor (List ℕ)). p x.now) xs ≡ position_or_len p (map (λ (x : Bor (List ℕ)). x.now) xs)
placed_at p [] = refl
placed_at p (x ∷ xs) = ap (λ n. cond (not (p x.now)) (1 + n) 0) (placed_at p xs)

so_many : (xs : List (Bor (List ℕ))) → length xs ≡ length (map (λ (x : Bor (List ℕ)). x.now) xs)
so_many [] = refl
so_many (x ∷ xs) = ap suc (so_many xs)

pub placed_now : (p : List ℕ → Bool) (xs : List (Bor (List ℕ))) →
    position (λ (x : Bor (List ℕ)). p x.now) xs ≡ position p (map (λ (x : Bor (List ℕ)). x.now) xs)
placed_now p xs =
    ap (λ n. cond (nat_lt n (length xs)) (Some n) None) (placed_at p xs)
    ∙ ap (λ l. cond (nat_lt (position_or_len p (map (λ (x : Bor (List ℕ)). x.now) xs)) l)
    (Some (position_or_len p (map (λ (x : Bor (List ℕ)). x.now) xs))) None) (so_many xs)

-- a form that fits is as long as its text
pub fits_length : (form text : List ℕ) → fits form text ≡ true → length form ≡ length text
fits_length form text h =
    elim (cases_eq (length form) (length text)) as (λ w. length form ≡ length text)
    [ inl e ↦ e | inr other ↦ absurd (true≢false (sym h ∙ other_length form text other)) ]

-- what is found among forms that are short is a form of the text
pub found_form : (text : List ℕ) (xs : List (Bor (List ℕ))) → are_short (map (λ (x : Bor (List ℕ)). x.now) xs) ≡ true →
    IfSome (find (λ (x : Bor (List ℕ)). fits x.now text) xs) (λ form. IsFormOf text form.now)
unfolding are_short
found_form text [] h = tt
found_form text (x ∷ xs) h =
    let parts = and_parts (is_short x.now) (list_all is_short (map (λ (x : Bor (List ℕ)). x.now) xs)) h in
    elim (fits x.now text) as
    (λ b. fits x.now text ≡ b → IfSome (cond b (Some x) (find (λ (x : Bor (List ℕ)). fits x.now text) xs)) (λ form. IsFormOf text form.now))
    [ true ↦ λ e. record { same_length = fits_length x.now text e; has = e; short = parts.0 } | false ↦ λ e. found_form text xs parts.1 ] refl

-- the forms are short
pub forms_are_short : are_short forms ≡ true
unfolding are_short is_short
forms_are_short = refl

-- ---- the digits of a letter, one after another

all_at : (p : ℕ → Bool) (letter : ℕ) (letters : List ℕ) → list_all p letters ≡ true → list_any (λ l. l == letter) letters ≡ true → p letter ≡ true
all_at p letter [] all some = absurd (true≢false (sym some))
all_at p letter (l ∷ letters) all some =
    let parts = and_parts (p l) (list_all p letters) all in
    elim (nat_eq l letter) as (λ b. nat_eq l letter ≡ b → (b || list_any (λ l. l == letter) letters) ≡ true → p letter ≡ true)
    [ true ↦ λ e some. ap p (sym (eqb-true l letter e)) ∙ parts.0 | false ↦ λ e some. all_at p letter letters parts.1 some ] refl some

short_count : (letter : ℕ) (form : List ℕ) → is_short form ≡ true →
    list_any (λ l. l == letter) read_letters ≡ true → length (filter (λ f. f == letter) form) ≤ 4
unfolding is_short
short_count letter form short some = leb-true _ _ (all_at (λ letter. nat_le (length (filter (λ f. f == letter) form)) 4) letter read_letters short some)

-- one more byte of a form and its text
here : (letter f c : ℕ) (form text : List ℕ) → nat_eq f letter ≡ true → under letter (f ∷ form) (c ∷ text) ≡ c ∷ under letter form text
unfolding under
here letter f c form text e =
    ap (λ b. map (λ (p : ℕ × ℕ). p.1)
    (cond b ((f, c) ∷ filter (λ (p : ℕ × ℕ). p.0 == letter) (zip form text)) (filter (λ (p : ℕ × ℕ). p.0 == letter) (zip form text)))) e

elsewhere : (letter f c : ℕ) (form text : List ℕ) → nat_eq f letter ≡ false → under letter (f ∷ form) (c ∷ text) ≡ under letter form text
unfolding under
elsewhere letter f c form text e =
    ap (λ b. map (λ (p : ℕ × ℕ). p.1)
    (cond b ((f, c) ∷ filter (λ (p : ℕ × ℕ). p.0 == letter) (zip form text)) (filter (λ (p : ℕ × ℕ). p.0 == letter) (zip form text)))) e

few_digits : (letter : ℕ) (form text : List ℕ) → length (under letter form text) ≤ length (filter (λ f. f == letter) form)
few_digits letter [] text = unfold under in omega arith
few_digits letter (f ∷ form) [] = unfold under in omega arith
few_digits letter (f ∷ form) (c ∷ text) =
    elim (nat_eq f letter) as (λ b. nat_eq f letter ≡ b →
    length (under letter (f ∷ form) (c ∷ text)) ≤ length (cond b (f ∷ filter (λ f. f == letter) form) (filter (λ f. f == letter) form))) [
      | true ↦ λ e. omega (arith, ap length (here letter f c form text e), few_digits letter form text)
      | false ↦ λ e. omega (arith, ap length (elsewhere letter f c form text e), few_digits letter form text)
    ] refl

-- a byte for which a letter of digits stands is a digit
digit_stands : (form text : List ℕ) (i : ℕ) → fits form text ≡ true → i < length form →
    list_any (λ l. l == get_or form i 0) digit_letters ≡ true → get_or text i 0 ≤ 57
digit_stands [] text i h inside is = absurd (omega (arith, inside))
digit_stands (f ∷ form) [] i h inside is = absurd (true≢false (sym h))
digit_stands (f ∷ form) (c ∷ text) zero h inside is =
    let first = (and_parts (stands_for f c) (fits form text) h).0 in
    let digit : is_ascii_digit c ≡ true = ap (λ b. cond b (is_ascii_digit c) ((f == 66) || (f == c))) (sym is) ∙ first in
    leb-true _ _ (and_parts (nat_le 48 c) (nat_le c 57) digit).1
digit_stands (f ∷ form) (c ∷ text) (suc i) h inside is =
    digit_stands form text i (and_parts (stands_for f c) (fits form text) h).1 (omega (arith, inside)) is

-- the letters that are read stand for digits
digit_at : (letter : ℕ) (form text : List ℕ) (i : ℕ) → IsFormOf text form →
    list_any (λ l. l == letter) read_letters ≡ true → i < length form → get_or form i 0 ≡ letter → get_or text i 0 ≤ 57
digit_at letter form text i is some h at =
    let of_digits : list_any (λ l. l == letter) digit_letters ≡ true = all_at (λ k. list_any (λ l. l == k) digit_letters) letter read_letters refl some in
    digit_stands form text i is.has h (ap (λ k. list_any (λ l. l == k) digit_letters) at ∙ of_digits)

-- the rest of a form and its text from a place on
rest_of : ℕ → List ℕ → List ℕ → ℕ → List ℕ
rest_of letter form text i = under letter (drop i form) (drop i text)

from_here : (letter : ℕ) (form text : List ℕ) (i : ℕ) → i < length form → length form ≡ length text →
    under letter (drop i form) (drop i text) ≡ under letter (get_or form i 0 ∷ drop (i + 1) form) (get_or text i 0 ∷ drop (i + 1) text)
from_here letter form text i h same =
    let next : i + 1 ≡ suc i = omega arith in
    let first : drop i form ≡ get_or form i 0 ∷ drop (i + 1) form = drop-cons form i 0 h ∙ ap (λ k. get_or form i 0 ∷ drop k form) (sym next) in
    let second : drop i text ≡ get_or text i 0 ∷ drop (i + 1) text =
    drop-cons text i 0 (omega (arith, h, same)) ∙ ap (λ k. get_or text i 0 ∷ drop k text) (sym next) in
    ap (λ xs. under letter xs (drop i text)) first ∙ ap (under letter (get_or form i 0 ∷ drop (i + 1) form)) second

number_after-cons : (n d : ℕ) (ds : List ℕ) → number_after n (d ∷ ds) ≡ number_after (n * 10 + (d - 48)) ds
number_after-cons n d ds = omega (arith, ap (λ x. n * x) (pow-suc 10 (length ds)))

-- what a loop over a form knows of the number so far: with the digits that are left it makes the whole number, which is small
pub record IsSoFar (letter : ℕ) (form text : List ℕ) (i n : ℕ) : Type 0 where
  pub whole : number_after n (under letter (drop i form) (drop i text)) ≡ value letter form text
  pub small : (n + 1) * 10 ^ length (under letter (drop i form) (drop i text)) ≤ 10000

ten_to_four : (k : ℕ) → k ≤ 4 → (0 + 1) * 10 ^ k ≤ 10000
ten_to_four zero h = omega arith
ten_to_four (suc zero) h = omega arith
ten_to_four (suc (suc zero)) h = omega arith
ten_to_four (suc (suc (suc zero))) h = omega arith
ten_to_four (suc (suc (suc (suc zero)))) h = omega arith
ten_to_four (suc (suc (suc (suc (suc k))))) h = absurd (omega (arith, h))

pub so_far_at_first : (letter : ℕ) (form text : List ℕ) → IsFormOf text form → list_any (λ l. l == letter) read_letters ≡ true → IsSoFar letter form text 0 0
so_far_at_first letter form text is some = record {
  whole = omega arith;
  small = ten_to_four _ (omega (arith, few_digits letter form text, short_count letter form is.short some));
}

pub so_far_elsewhere : (letter : ℕ) (form text : List ℕ) (i n : ℕ) → IsFormOf text form → i < length form →
    (get_or form i 0 ≡ letter → ⊥) → IsSoFar letter form text i n → IsSoFar letter form text (i + 1) n
so_far_elsewhere letter form text i n is h other so_far =
    let same = from_here letter form text i h is.same_length
    ∙ elsewhere letter (get_or form i 0) (get_or text i 0) (drop (i + 1) form) (drop (i + 1) text) (ne_eqb _ _ other) in
    record {
      whole = ap (number_after n) (sym same) ∙ so_far.whole;
      small = let P : List ℕ → Type 0 = λ ds. (n + 1) * 10 ^ length ds ≤ 10000 in subst P same so_far.small;
    }

pub so_far_here : (letter : ℕ) (form text : List ℕ) (i n d : ℕ) → IsFormOf text form → list_any (λ l. l == letter) read_letters ≡ true →
    i < length form → get_or form i 0 ≡ letter → d ≡ get_or text i 0 - 48 → IsSoFar letter form text i n →
    (n ≤ 999) × (d ≤ 9) × IsSoFar letter form text (i + 1) (n * 10 + d)
so_far_here letter form text i n d is some h at digit so_far =
    let byte = digit_at letter form text i is some h at in
    let rest : List ℕ = under letter (drop (i + 1) form) (drop (i + 1) text) in
    let same : under letter (drop i form) (drop i text) ≡ get_or text i 0 ∷ rest =
    from_here letter form text i h is.same_length ∙ here letter (get_or form i 0) (get_or text i 0) (drop (i + 1) form) (drop (i + 1) text) (eq-eqb _ _ at) in
    let small : (n + 1) * 10 ^ suc (length rest) ≤ 10000 = let P : List ℕ → Type 0 = λ ds. (n + 1) * 10 ^ length ds ≤ 10000 in subst P same so_far.small in
    let split : (n + 1) * 10 ^ suc (length rest) ≡ (n + 1) * 10 * 10 ^ length rest = omega (arith, ap (λ x. (n + 1) * x) (pow-suc 10 (length rest))) in
    let next : (n * 10 + d + 1) * 10 ^ length rest ≤ (n + 1) * 10 * 10 ^ length rest = mul-le-mul_right (10 ^ length rest) (omega (arith, byte, digit)) in
    let least : (n + 1) * 10 * 1 ≤ (n + 1) * 10 * 10 ^ length rest = mul-le-mul_left ((n + 1) * 10) (ten_pos (length rest)) in (
      omega (arith, small, split, least),
      omega (arith, byte, digit),
      record {
        whole = ap (λ d. number_after (n * 10 + d) rest) digit
            ∙ sym (number_after-cons n (get_or text i 0) rest) ∙ ap (number_after n) (sym same) ∙ so_far.whole;
        small = omega (arith, small, split, next);
      },
    )

nothing_left : (xs : List ℕ) (i : ℕ) → length xs ≤ i → drop i xs ≡ []
nothing_left [] zero h = refl
nothing_left [] (suc i) h = refl
nothing_left (x ∷ xs) zero h = absurd (omega (arith, h))
nothing_left (x ∷ xs) (suc i) h = nothing_left xs i (omega (arith, h))

none_under : (letter : ℕ) (text : List ℕ) → under letter [] text ≡ []
unfolding under
none_under letter text = refl

pub so_far_at_last : (letter : ℕ) (form text : List ℕ) (i n : ℕ) → length form ≤ i → IsSoFar letter form text i n → (n ≡ value letter form text) × (n ≤ 9999)
so_far_at_last letter form text i n h so_far =
    let empty : under letter (drop i form) (drop i text) ≡ [] =
    ap (λ xs. under letter xs (drop i text)) (nothing_left form i h) ∙ none_under letter (drop i text) in
    let whole : n * 10 ^ 0 + 0 ≡ value letter form text = ap (number_after n) (sym empty) ∙ so_far.whole in
    let small : (n + 1) * 10 ^ 0 ≤ 10000 = let P : List ℕ → Type 0 = λ ds. (n + 1) * 10 ^ length ds ≤ 10000 in subst P empty so_far.small in
    (omega (arith, whole), omega (arith, small))
