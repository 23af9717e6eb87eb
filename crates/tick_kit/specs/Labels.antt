-- Labels of numbers: so many decimals, commas between thousands, and U+2212 as the minus sign.
use Rattle.std.specs.Prelude.{ℕ, zero, suc, ◌/◌, ◌%◌, ◌^◌, ◌==◌, ◌&&◌, nat_lt, List, [], ◌∷◌, ◌++◌, length, ℤ, pos, negsuc, ◌*ℤ◌}
use Rattle.std.specs.Prelude.{unsigned_abs, if◌then◌else◌, ◌≡◌, refl, codes}
use Rattle.std.specs.Fmt.{decimal, digits}
use Rattle.fixed_num.specs.Number.{rounded, floor_quotient, million}
use Rattle.fixed_num.specs.Decimal.{last_digits}

-- how many decimals a number needs that counts units of so many decimals: none of its zeros at the end
abbrev pub decimals_within : ℕ → ℕ → ℕ
decimals_within zero n = zero
decimals_within (suc k) n = if n % 10 == 0 then decimals_within k (n / 10) else suc k

-- how many decimals a number has: those of a step are those of the labels beside it
unfoldable pub decimals_of : ℤ → ℕ
decimals_of v = decimals_within 6 (unsigned_abs v)

-- a comma before digits that are groups of three
abbrev pub comma_before : ℕ → List ℕ
comma_before left = if nat_lt 0 left && (left % 3 == 0) then 44 ∷ [] else []

-- digits with a comma between thousands
abbrev pub with_thousands : List ℕ → List ℕ
with_thousands [] = []
with_thousands (d ∷ ds) = d ∷ (comma_before (length ds) ++ with_thousands ds)

-- the sign of a number: U+2212 below zero
abbrev pub sign_of : ℤ → List ℕ
sign_of (pos n) = []
sign_of (negsuc n) = 226 ∷ 136 ∷ 146 ∷ []

-- a point and so many decimals of a number that counts the last of them
abbrev pub fraction_of : ℕ → ℕ → List ℕ
fraction_of zero n = []
fraction_of (suc k) n = 46 ∷ last_digits (suc k) n

-- a size that counts units of so many decimals
abbrev pub size_label : ℕ → ℕ → List ℕ
size_label decimals n = with_thousands (decimal (n / 10 ^ decimals)) ++ fraction_of decimals n

-- a number in units of so many decimals, rounded
abbrev pub in_units : ℕ → ℤ → ℤ
in_units decimals v = rounded (v *ℤ pos (10 ^ decimals)) million

-- the label of a number with so many decimals, at most 6; what rounds to zero has no sign
unfoldable pub number_label : ℤ → ℕ → List ℕ
number_label v decimals = sign_of (in_units decimals v) ++ size_label decimals (unsigned_abs (in_units decimals v))

-- ---- worked examples

a_million_and_more : number_label (pos 1234567000000) 0 ≡ codes "1,234,567"
unfolding number_label rounded floor_quotient digits
a_million_and_more = refl

minus_a_half : number_label (negsuc 499999) 1 ≡ 226 ∷ 136 ∷ 146 ∷ codes "0.5"
unfolding number_label rounded floor_quotient digits
minus_a_half = refl

rounded_to_zero : number_label (negsuc 499999) 0 ≡ codes "0"
unfolding number_label rounded floor_quotient digits
rounded_to_zero = refl

a_hundredth_short_of_a_thousand : number_label (pos 999995000) 2 ≡ codes "1,000.00"
unfolding number_label rounded floor_quotient digits
a_hundredth_short_of_a_thousand = refl

decimals_of_steps : (decimals_of (pos 5000000) ≡ 0) × (decimals_of (pos 200000) ≡ 1) × (decimals_of (pos 1) ≡ 6) × (decimals_of (pos 0) ≡ 0)
unfolding decimals_of
decimals_of_steps = (refl, refl, refl, refl)
