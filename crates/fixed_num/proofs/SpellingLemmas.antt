-- How the digits of a fraction come one by one.
use Rattle.std.proofs.Common.{◌≡◌, ◌≢◌, ℕ, zero, suc, ◌+◌, ◌-◌, ◌*◌, ◌/◌, ◌%◌, ◌^◌, ◌<◌, List, [], ◌∷◌, ◌++◌, take, length, set, eqb, cond}
use Rattle.std.proofs.Common.{true, false, ℤ, pos, negsuc, ◌<ℤ◌, ◌≤ℤ◌, unsigned_abs, ⊎_elim, ne_eqb, append_assoc, arith, sym, refl, ap}
use Rattle.std.proofs.Common.{◌∙◌}
use Rattle.std.proofs.Math.Nat.{pow-suc, mul-add-div_right, mul-add-mod_self_right, mod-eq_of_lt, zero-div}
use Rattle.std.proofs.lemmas.Nat.{div-add-mod', mod_below, div_below}
use Rattle.std.proofs.lemmas.Int.{ints}
use Rattle.std.proofs.lemmas.Bool.Decides.{eqb_tells}
use Rattle.std.proofs.lemmas.List.{take_more_set}
use Rattle.fixed_num.proofs.DigitLemmas.{ten_pos}
use Rattle.fixed_num.specs.Decimal.{last_digits, before_digits, without_trailing_zeros, fraction_digits, size_spelling, spelling}

pub first_below_ten : (k n : ℕ) → n < 10 ^ suc k → n / 10 ^ k < 10
first_below_ten k n l = div_below n (10 ^ k) 10 (ten_pos k) (omega (arith, pow-suc 10 k))

-- the last digits do not depend on those before them
last_digits_low : (k q r : ℕ) → last_digits k (q * 10 ^ k + r) ≡ last_digits k r
last_digits_low zero q r = refl
last_digits_low (suc k) q r =
    let split : q * 10 ^ suc k + r ≡ q * 10 * 10 ^ k + r = omega (arith, ap (λ x. q * x) (pow-suc 10 k)) in
    let digit : (q * 10 ^ suc k + r) / 10 ^ k % 10 ≡ r / 10 ^ k % 10 =
    ap (λ x. x / 10 ^ k % 10) split ∙ ap (λ x. x % 10) (mul-add-div_right (ten_pos k) (q * 10) r)
    ∙ mul-add-mod_self_right q 10 (r / 10 ^ k) in
    ap (λ x. (48 + x) ∷ last_digits k (q * 10 ^ suc k + r)) digit
    ∙ ap (λ x. (48 + r / 10 ^ k % 10) ∷ x) (ap (last_digits k) split ∙ last_digits_low k (q * 10) r)

before_digits_nil : (d : ℕ) (ds : List ℕ) → before_digits d ds ≡ [] → (d ≡ 48) × (ds ≡ [])
before_digits_nil d [] e =
    ⊎_elim (λ (t : (eqb d 48 ≡ true) × (d ≡ 48)). (t.1, refl)) (λ (f : (eqb d 48 ≡ false) × (d ≢ 48)). let bad = rw f.0 at e in
    cc) (eqb_tells d 48)
before_digits_nil d (x ∷ xs) e = cc

before_digits_keep : (d : ℕ) (ds : List ℕ) → (ds ≡ [] → d ≢ 48) → before_digits d ds ≡ d ∷ ds
before_digits_keep d [] h = ap (λ b. cond b [] (d ∷ [])) (ne_eqb d 48 (h refl))
before_digits_keep d (x ∷ xs) h = refl

-- only zeros leave nothing
nothing_left : (k n : ℕ) → n < 10 ^ k → without_trailing_zeros (last_digits k n) ≡ [] → n ≡ 0
nothing_left zero n h e = omega arith
nothing_left (suc k) n h e =
    let parts = before_digits_nil (48 + n / 10 ^ k % 10) (without_trailing_zeros (last_digits k n)) e in
    let first : n / 10 ^ k ≡ 0 = omega (arith, parts.0, first_below_ten k n h) in
    let low : n < 10 ^ k = omega (arith, div-add-mod' n (10 ^ k), mod_below n (10 ^ k) (ten_pos k), ap (λ x. x * 10 ^ k) first) in
    nothing_left k n low parts.1

pub first_place : (k n : ℕ) → 0 < n → n < 10 ^ suc k → fraction_digits (suc k) n ≡ (48 + n / 10 ^ k) ∷ fraction_digits k (n % 10 ^ k)
unfolding fraction_digits
first_place k n h l =
    let digit : n / 10 ^ k % 10 ≡ n / 10 ^ k = mod-eq_of_lt (first_below_ten k n l) in
    let low : last_digits k n ≡ last_digits k (n % 10 ^ k) =
    ap (last_digits k) (sym (div-add-mod' n (10 ^ k))) ∙ last_digits_low k (n / 10 ^ k) (n % 10 ^ k) in
    before_digits_keep (48 + n / 10 ^ k % 10) (without_trailing_zeros (last_digits k n))
    (λ none is_zero. let rest = nothing_left k (n % 10 ^ k) (mod_below n (10 ^ k) (ten_pos k)) (ap without_trailing_zeros (sym low)
    ∙ none) in let first : n / 10 ^ k ≡ 0 = omega (arith, is_zero, digit) in
    omega (arith, div-add-mod' n (10 ^ k), ap (λ x. x * 10 ^ k) first))
    ∙ ap (λ x. (48 + x) ∷ without_trailing_zeros (last_digits k n)) digit
    ∙ ap (λ x. (48 + n / 10 ^ k) ∷ without_trailing_zeros x) low

-- the first of so many places, which are not all zeros, and those that are left
pub record FirstPlace (places n place : ℕ) : Type 0 where
  pub some : 0 < places
  pub above_zero : 0 < place
  pub digit : n / place < 10
  pub low : n % place < 10 ^ (places - 1)
  pub split : fraction_digits places n ≡ (48 + n / place) ∷ fraction_digits (places - 1) (n % place)

FirstPlace-from_suc : (k n : ℕ) → 0 < n → n < 10 ^ suc k → FirstPlace (suc k) n (10 ^ k)
FirstPlace-from_suc k n h l =
    let less : suc k - 1 ≡ k = omega arith in
    record {
      some = omega arith;
      above_zero = ten_pos k;
      digit = first_below_ten k n l;
      low = rw less (mod_below n (10 ^ k) (ten_pos k));
      split = rw less (first_place k n h l);
    }

pub FirstPlace-at : (places n place : ℕ) → 0 < n → n < 10 ^ places → place ≡ 10 ^ (places - 1) → FirstPlace places n place
FirstPlace-at zero n place h l e = absurd (omega arith)
FirstPlace-at (suc k) n place h l e =
    let less : suc k - 1 ≡ k = omega arith in rw (e, less) (FirstPlace-from_suc k n h l)

-- one more byte of a text that is written
pub one_more : (buf : List ℕ) (end d : ℕ) (ds rest : List ℕ) → end < length buf → take end buf ++ ds ≡ rest → (tail : List ℕ)
    → ds ≡ d ∷ tail → take (end + 1) (set buf end d) ++ tail ≡ rest
one_more buf end d ds rest h e tail f =
    ap (λ x. x ++ tail) (take_more_set buf end d h) ∙ append_assoc (take end buf) (d ∷ []) tail ∙ ap (λ x. take end buf ++ x) (sym f) ∙ e

-- nothing stands for nothing
pub fraction_digits_none : (places : ℕ) → fraction_digits places 0 ≡ []
unfolding fraction_digits
fraction_digits_none zero = refl
fraction_digits_none (suc k) =
    ap (before_digits (48 + 0 / 10 ^ k % 10)) (fraction_digits_none k) ∙ ap (λ x. before_digits (48 + x % 10) []) (zero-div (10 ^ k))

-- the spelling by the sign
pub spelling_below_zero : (m : ℤ) → m <ℤ pos 0 → 45 ∷ size_spelling (unsigned_abs m) ≡ spelling m
unfolding spelling
spelling_below_zero (pos n) h = absurd (omega (arith, ints))
spelling_below_zero (negsuc n) h = refl

pub spelling_from_zero : (m : ℤ) → pos 0 ≤ℤ m → size_spelling (unsigned_abs m) ≡ spelling m
unfolding spelling
spelling_from_zero (pos n) h = refl
spelling_from_zero (negsuc n) h = absurd (omega (arith, ints))
