-- The spelling of a number that is not below zero begins with a digit.
use Rattle.std.proofs.Common.{◌≡◌, ◌≢◌, ◌++◌, length, get_or, rules, ℕ, ◌/◌, ◌%◌, ◌^◌, ◌<◌, ◌≤◌, List, [], ◌∷◌, true, ℤ, pos, negsuc, arith}
use Rattle.std.specs.Prelude.{◌≤ℤ◌, decimal}
use Rattle.std.specs.List.{list_all}
use Rattle.std.specs.Char.{is_ascii_digit}
use Rattle.std.proofs.lemmas.Int.{ints}
use Rattle.std.proofs.lemmas.Str.Parse.{IsNumeralModel, numerals_by_weight}
use Rattle.std.proofs.lemmas.Fmt.{digits_decimal, decimal_nonempty}
use Rattle.std.proofs.lemmas.Bool.Decides.{nat_tests}
use Rattle.fixed_num.proofs.DigitLemmas.{both_true}
use Rattle.fixed_num.specs.JsonNumber.{AreDigits, number_of}
use Rattle.fixed_num.specs.Number.{limit, million, IsNumber}
use Rattle.fixed_num.specs.Decimal.{fraction_spelling, size_spelling, spelling}

own : IsNumeralModel AreDigits number_of
own = numerals_by_weight AreDigits (search rules) number_of (search rules)

first_digit : (ds rest : List ℕ) → 0 < length ds → AreDigits ds → is_ascii_digit (get_or (ds ++ rest) 0 0) ≡ true
first_digit [] rest some a = absurd (omega arith)
first_digit (d ∷ ds) rest some a = (both_true (is_ascii_digit d) (list_all is_ascii_digit ds) a).0

begins_with_digit : (n : ℕ) → n ≤ limit → is_ascii_digit (get_or (spelling (pos n)) 0 0) ≡ true
unfolding spelling size_spelling
begins_with_digit n h =
    let small : n / million < 2 ^ 64 = omega arith in
    first_digit (decimal (n / million)) (fraction_spelling (n % million)) (decimal_nonempty (n / million) small)
    (digits_decimal own (n / million) small)

digit_no_minus : (b : ℕ) → is_ascii_digit b ≡ true → b ≢ 45
digit_no_minus b e same = absurd (grind (arith, nat_tests))

-- a number that is not below zero is written without a sign
pub no_minus : (m : ℤ) → IsNumber m → pos 0 ≤ℤ m → get_or (spelling m) 0 0 ≢ 45
no_minus (pos n) k h = digit_no_minus (get_or (spelling (pos n)) 0 0) (begins_with_digit n (omega (arith, ints, k)))
no_minus (negsuc n) k h = absurd (omega (arith, ints))
