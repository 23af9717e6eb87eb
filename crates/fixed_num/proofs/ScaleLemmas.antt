-- Numbers whose point moves.
use Rattle.std.proofs.Common.{◌≡◌, ◌≢◌, ℕ, zero, suc, ◌+◌, ◌+ℤ◌, ◌*ℤ◌, ◌-◌, ◌*◌, ◌^◌, ◌<◌, ◌≤◌, List, [], ◌++◌, length, ℤ, pos, negsuc}
use Rattle.std.proofs.Common.{neg_ℤ, unsigned_abs, Bool, true, false, append_assoc, subst, mul-le-mul_left, arith, sym, refl, ap, ◌∙◌}
use Rattle.std.proofs.Math.Nat.{zero-mul, pow-suc, pow-le-pow_right, mul-le-mul_right}
use Rattle.std.proofs.lemmas.Int.{ints}
use Rattle.std.proofs.lemmas.List.{append-nil, length-append}
use Rattle.fixed_num.proofs.RoundingLemmas.{rounded_down, rounded_toward, size_below, size_in_range}
use Rattle.fixed_num.proofs.DigitLemmas.{ten_pos, number_below}
use Rattle.fixed_num.specs.Number.{limit, IsNumber, signed, rounded}
use Rattle.fixed_num.specs.JsonNumber.{Parts, AreDigits, number_of, scaled, decimal_value}
use Rattle.fixed_num.specs.inner.Digits.{rounded_at}

size_of_signed : (minus : Bool) (n : ℕ) → unsigned_abs (signed minus n) ≡ n
size_of_signed false n = refl
size_of_signed true n = size_below n

pub power_in_range : (places : ℕ) → places ≤ 21 → 10 ^ places ≤ 10 ^ 21
power_in_range places h = pow-le-pow_right (omega arith) h

pub too_many_digits : (minus : Bool) (n places : ℕ) → (n ≤ limit → ⊥) → IsNumber (signed minus (n * 10 ^ places)) → ⊥
too_many_digits minus n places far h =
    far (omega (arith, size_in_range _ h, size_of_signed minus (n * 10 ^ places), mul-le-mul_left n (ten_pos places)))

pub too_many_places : (minus : Bool) (n places : ℕ) → n ≢ 0 → 21 < places → IsNumber (signed minus (n * 10 ^ places)) → ⊥
too_many_places minus n places some far h =
    let one : 1 ≤ n = omega (arith, some) in
    let power : 10 ^ 22 ≤ 10 ^ places = pow-le-pow_right (omega arith) far in
    omega (arith, size_in_range _ h, size_of_signed minus (n * 10 ^ places), mul-le-mul_right (10 ^ places) one, power)

nothing_at : (minus : Bool) (n d : ℕ) → 2 * n < d → pos 0 ≡ rounded (signed minus n) d
nothing_at false n d h =
    let whole : n ≡ 0 * d + n = omega arith in
    sym (ap (λ k. rounded (pos k) d) whole ∙ rounded_down 0 n d (omega arith) h)
nothing_at true n d h =
    let whole : n ≡ 0 * d + n = omega arith in
    sym (ap (λ k. rounded (neg_ℤ (pos k)) d) whole ∙ rounded_toward 0 n d (omega arith) (omega arith))

pub rounded_to_nothing : (minus : Bool) (n len places : ℕ) → n < 10 ^ len → len < places → pos 0 ≡ rounded (signed minus n) (10 ^ places)
rounded_to_nothing minus n len places h l =
    let power : 10 ^ suc len ≤ 10 ^ places = pow-le-pow_right (omega arith) l in
    let small : 2 * n < 10 ^ places = omega (arith, power, pow-suc 10 len) in
    nothing_at minus n (10 ^ places) small

-- digits that are cut before the point, and after it
pub cut_in_whole : (minus : Bool) (w f kept cut : List ℕ) (places : ℕ) → w ≡ kept ++ cut → length cut + length f ≡ places
    → rounded_at minus (kept ++ []) (cut ++ f) ≡ rounded (signed minus (number_of (w ++ f))) (10 ^ places)
unfolding rounded_at
cut_in_whole minus w f kept cut places e l =
    let list : kept ++ [] ++ (cut ++ f) ≡ w ++ f = ap (λ t. t ++ (cut ++ f)) (append-nil kept) ∙ sym (append_assoc kept cut f)
    ∙ ap (λ t. t ++ f) (sym e) in
    ap (λ t. rounded (signed minus (number_of t)) (10 ^ length (cut ++ f))) list
    ∙ ap (λ n. rounded (signed minus (number_of (w ++ f))) (10 ^ n)) (length-append cut f ∙ l)

pub cut_in_fraction : (minus : Bool) (w f kept cut : List ℕ) (places : ℕ) → f ≡ kept ++ cut → length cut ≡ places
    → rounded_at minus (w ++ kept) (cut ++ []) ≡ rounded (signed minus (number_of (w ++ f))) (10 ^ places)
unfolding rounded_at
cut_in_fraction minus w f kept cut places e l =
    let list : w ++ kept ++ (cut ++ []) ≡ w ++ f = ap (λ t. w ++ kept ++ t) (append-nil cut) ∙ append_assoc w kept cut
    ∙ ap (λ t. w ++ t) (sym e) in
    ap (λ t. rounded (signed minus (number_of t)) (10 ^ length (cut ++ []))) list
    ∙ ap (λ n. rounded (signed minus (number_of (w ++ f))) (10 ^ n)) (ap length (append-nil cut) ∙ l)

-- ---- the value, by which way the point moves

signed_times : (minus : Bool) (n d : ℕ) → signed minus n *ℤ pos d ≡ signed minus (n * d)
signed_times false n d = refl
signed_times true zero d = ap (λ x. pos x) (zero-mul d) ∙ sym (ap (λ x. neg_ℤ (pos x)) (zero-mul d))
signed_times true (suc n) d = refl

signed_nothing : (minus : Bool) (n : ℕ) → n ≡ 0 → signed minus n ≡ pos 0
signed_nothing false n e = ap pos e
signed_nothing true n e = ap (λ x. neg_ℤ (pos x)) e

pub scaled_to_left : (m k : ℤ) (places : ℕ) → 0 < places → k +ℤ pos places ≡ pos 0 → rounded m (10 ^ places) ≡ scaled m k
unfolding scaled
scaled_to_left m (pos n) places h e = absurd (omega (arith, ints, e))
scaled_to_left m (negsuc n) places h e =
    let same : places ≡ suc n = omega (arith, ints, e) in ap (λ j. rounded m (10 ^ j)) same

pub scaled_to_right : (minus : Bool) (n : ℕ) (k : ℤ) (places : ℕ) → k ≡ pos places
    → signed minus (n * 10 ^ places) ≡ scaled (signed minus n) k
unfolding scaled
scaled_to_right minus n (pos j) places e =
    let same : places ≡ j = omega (arith, ints, e) in
    ap (λ j. signed minus (n * 10 ^ j)) same ∙ sym (signed_times minus n (10 ^ j))
scaled_to_right minus n (negsuc j) places e = absurd (omega (arith, ints, e))

-- an exponent past every number leaves nothing below zero, and above it too much of anything
pub value_far_left : (p : Parts) (n : ℕ) → AreDigits (p.whole ++ p.fraction) → p.exponent ≡ neg_ℤ (pos n) → length p.whole + 7 ≤ n
    → pos 0 ≡ decimal_value p
unfolding decimal_value
value_far_left p n a e far =
    let places = n + length p.fraction - 6 in
    rounded_to_nothing p.minus _ (length (p.whole ++ p.fraction)) places (number_below (p.whole ++ p.fraction) a)
    (omega (arith, length-append p.whole p.fraction)) ∙ scaled_to_left _ _ places (omega arith) (omega (arith, ints, e))

pub value_far_zeros : (p : Parts) (n : ℕ) → number_of (p.whole ++ p.fraction) ≡ 0 → p.exponent ≡ pos n → length p.fraction ≤ n
    → pos 0 ≡ decimal_value p
unfolding decimal_value
value_far_zeros p n z e far =
    let places = n + 6 - length p.fraction in
    sym (signed_nothing p.minus (number_of (p.whole ++ p.fraction) * 10 ^ places) (ap (λ x. x * 10 ^ places) z ∙ zero-mul (10 ^ places)))
    ∙ scaled_to_right p.minus _ _ places (omega (arith, ints, e))

pub value_far_right : (p : Parts) (n : ℕ) → 0 < number_of (p.whole ++ p.fraction) → p.exponent ≡ pos n → length p.fraction + 16 ≤ n
    → IsNumber (decimal_value p) → ⊥
unfolding decimal_value
value_far_right p n some e far h =
    let places = n + 6 - length p.fraction in
    too_many_places p.minus (number_of (p.whole ++ p.fraction)) places (λ z. omega (arith, z, some)) (omega arith)
    (subst IsNumber (sym (scaled_to_right p.minus _ _ places (omega (arith, ints, e)))) h)

pub ruleset scaling = (power_in_range, too_many_digits, too_many_places)
