-- The spelling of a number is ASCII.
use Rattle.std.proofs.Common.{ℕ, zero, suc, ◌/◌, ◌%◌, ◌^◌, ◌<◌, List, [], ◌∷◌, true, false, if◌then◌else◌, ℤ, pos, negsuc, arith}
use Rattle.std.specs.Prelude.{◌==◌, decimal}
use Rattle.std.specs.Fmt.{digit_glyph, digits_onto, digits}
use Rattle.std.specs.Str.{IsAscii, IsUtf8}
use Rattle.std.proofs.lemmas.Nat.{mod_below}
use Rattle.std.proofs.lemmas.Bool.Decides.{nat_tests}
use Rattle.std.proofs.lemmas.Str.{IsAscii-append, IsUtf8-from_ascii}
use Rattle.std.proofs.lemmas.Str.Ascii.{IsAscii-nil, IsAscii-cons}
use Rattle.fixed_num.specs.Number.{million}
use Rattle.fixed_num.specs.Decimal.{last_digits, before_digits, without_trailing_zeros, fraction_digits, fraction_spelling, size_spelling}
use Rattle.fixed_num.specs.Decimal.{spelling}

one_digit : (n : ℕ) → digit_glyph false (n % 10) < 128
one_digit n = grind (arith, nat_tests, mod_below n 10 (omega arith))

digits_onto_ascii : (k n : ℕ) (more : List ℕ) → IsAscii more → IsAscii (digits_onto k 10 false n more)
digits_onto_ascii zero n more h = h
digits_onto_ascii (suc k) n more h =
    let here = IsAscii-cons (digit_glyph false (n % 10)) more (one_digit n) h in
    elim (n / 10 == 0) as (λ b. IsAscii (if b then (digit_glyph false (n % 10) ∷ more)
    else digits_onto k 10 false (n / 10) (digit_glyph false (n % 10) ∷ more))) [
      | true ↦ here
      | false ↦ digits_onto_ascii k (n / 10) _ here
    ]

decimal_ascii : (n : ℕ) → IsAscii (decimal n)
unfolding digits
decimal_ascii n = digits_onto_ascii 64 n [] IsAscii-nil

last_digits_ascii : (k n : ℕ) → IsAscii (last_digits k n)
last_digits_ascii zero n = IsAscii-nil
last_digits_ascii (suc k) n =
    IsAscii-cons _ _ (omega (arith, mod_below (n / 10 ^ k) 10 (omega arith))) (last_digits_ascii k n)

before_digits_ascii : (d : ℕ) (ds : List ℕ) → d < 128 → IsAscii ds → IsAscii (before_digits d ds)
before_digits_ascii d [] l h =
    elim (d == 48) as (λ b. IsAscii (if b then [] else d ∷ [])) [ true ↦ IsAscii-nil | false ↦ IsAscii-cons d [] l IsAscii-nil ]
before_digits_ascii d (e ∷ es) l h = IsAscii-cons d (e ∷ es) l h

without_zeros_ascii : (ds : List ℕ) → IsAscii ds → IsAscii (without_trailing_zeros ds)
without_zeros_ascii [] h = IsAscii-nil
without_zeros_ascii (d ∷ ds) h = before_digits_ascii d _ (h 0) (without_zeros_ascii ds (λ i. h (suc i)))

fraction_ascii : (n : ℕ) → IsAscii (fraction_spelling n)
unfolding fraction_spelling fraction_digits
fraction_ascii n =
    elim (n == 0) as (λ b. IsAscii (if b then [] else 46 ∷ without_trailing_zeros (last_digits 6 n))) [
      | true ↦ IsAscii-nil
      | false ↦ IsAscii-cons 46 _ (omega arith) (without_zeros_ascii (last_digits 6 n) (last_digits_ascii 6 n))
    ]

size_ascii : (n : ℕ) → IsAscii (size_spelling n)
unfolding size_spelling
size_ascii n = IsAscii-append _ _ (decimal_ascii (n / million)) (fraction_ascii (n % million))

spelling_ascii : (m : ℤ) → IsAscii (spelling m)
unfolding spelling
spelling_ascii (pos n) = size_ascii n
spelling_ascii (negsuc n) = IsAscii-cons 45 _ (omega arith) (size_ascii (suc n))

-- so it is a text
pub spelling_utf8 : (m : ℤ) → IsUtf8 (spelling m)
spelling_utf8 m = IsUtf8-from_ascii _ (spelling_ascii m)
