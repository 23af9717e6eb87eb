-- Decimal texts of numbers.
use Rattle.std.specs.Prelude.{ℕ, zero, suc, ◌+◌, ◌/◌, ◌%◌, ◌^◌, ◌==◌, List, [], ◌∷◌, ◌++◌, ℤ, pos, negsuc, if◌then◌else◌, ◌≡◌, codes, refl}
use Rattle.std.specs.Fmt.{decimal, digits}
use Rattle.fixed_num.specs.Number.{million}

-- the last so many digits of a number, zeros in front where it has fewer
abbrev pub last_digits : ℕ → ℕ → List ℕ
last_digits zero n = []
last_digits (suc k) n = (48 + n / 10 ^ k % 10) ∷ last_digits k n

-- a digit before digits that end in no zero
abbrev pub before_digits : ℕ → List ℕ → List ℕ
before_digits d [] = if d == 48 then [] else d ∷ []
before_digits d (e ∷ es) = d ∷ e ∷ es

-- digits without the zeros at their end
abbrev pub without_trailing_zeros : List ℕ → List ℕ
without_trailing_zeros [] = []
without_trailing_zeros (d ∷ ds) = before_digits d (without_trailing_zeros ds)

-- so many places after the point, without the zeros at their end
unfoldable pub fraction_digits : ℕ → ℕ → List ℕ
fraction_digits places n = without_trailing_zeros (last_digits places n)

-- a point and the digits of so many millionths, less than one, and nothing where there are none
unfoldable pub fraction_spelling : ℕ → List ℕ
fraction_spelling n = if n == 0 then [] else 46 ∷ fraction_digits 6 n

-- so many millionths: the whole part without leading zeros, and the fraction that is left
unfoldable pub size_spelling : ℕ → List ℕ
size_spelling n = decimal (n / million) ++ fraction_spelling (n % million)

-- the one spelling of a number
unfoldable pub spelling : ℤ → List ℕ
spelling (pos n) = size_spelling n
spelling (negsuc n) = 45 ∷ size_spelling (suc n)

one_millionth : spelling (pos 1) ≡ codes "0.000001"
unfolding spelling size_spelling fraction_spelling fraction_digits digits
one_millionth = refl

minus_one_and_a_half : spelling (negsuc 1499999) ≡ codes "-1.5"
unfolding spelling size_spelling fraction_spelling fraction_digits digits
minus_one_and_a_half = refl

the_least_number : spelling (negsuc 999999999999999999999) ≡ codes "-1000000000000000"
unfolding spelling size_spelling fraction_spelling fraction_digits digits
the_least_number = refl
