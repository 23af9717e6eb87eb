-- The numbers of JSON, and their exact values rounded to millionths.
use Rattle.std.specs.Prelude.{ℕ, suc, ◌+◌, ◌-◌, ◌*◌, ◌^◌, ◌≡◌, ◌≢◌, ◌⊎◌, List, [], ◌∷◌, ◌++◌, length, slice_index, ℤ, pos, negsuc, ◌+ℤ◌}
use Rattle.std.specs.Prelude.{◌-ℤ◌, ◌*ℤ◌, Bool, true, false, refl, codes}
use Rattle.std.specs.List.{list_all}
use Rattle.std.specs.Char.{is_ascii_digit}
use Rattle.std.specs.Fmt.{sign_text}
use Rattle.fixed_num.specs.Number.{limit, signed, rounded, floor_quotient}

-- the number that digits stand for
abbrev pub number_of : List ℕ → ℕ
number_of [] = 0
number_of (d ∷ ds) = (d - 48) * 10 ^ length ds + number_of ds

-- digits alone
abbrev pub AreDigits : List ℕ → Type 0
AreDigits ds = list_all is_ascii_digit ds ≡ true

-- a whole part: digits, and a zero in front only where it stands alone
pub record IsWhole (ds : List ℕ) : Type 0 where
  pub some : ds ≢ []
  pub digits : AreDigits ds
  pub leading_zero : slice_index ds 0 ≡ 48 → ds ≡ 48 ∷ []

-- a fraction: nothing, or a point and digits
abbrev pub fraction_text : List ℕ → List ℕ
fraction_text [] = []
fraction_text (d ∷ ds) = 46 ∷ d ∷ ds

-- a plus, a minus or no sign
abbrev pub IsSign : List ℕ → Bool → Type 0
IsSign [] minus = minus ≡ false
IsSign (c ∷ []) minus = ((c ≡ 43) × (minus ≡ false)) ⊎ ((c ≡ 45) × (minus ≡ true))
IsSign (c ∷ d ∷ ds) minus = ⊥

-- digits behind a sign or none, and the number that they stand for
pub record AreSignedDigits (text : List ℕ) (e : ℤ) : Type 0 where
  pub sign : List ℕ
  pub minus : Bool
  pub digits : List ℕ
  pub is_sign : IsSign sign minus
  pub some : digits ≢ []
  pub all_digits : AreDigits digits
  pub joined : text ≡ sign ++ digits
  pub value : e ≡ signed minus (number_of digits)

-- an exponent: nothing, or `e` or `E` before digits behind a sign or none
abbrev pub IsExponent : List ℕ → ℤ → Type 0
IsExponent [] e = e ≡ pos 0
IsExponent (mark ∷ text) e = ((mark ≡ 101) ⊎ (mark ≡ 69)) × AreSignedDigits text e

-- a JSON number by its parts: a minus or none, the digits before and after the point, and the exponent
pub record Parts : Type 0 where
  pub minus : Bool
  pub whole : List ℕ
  pub fraction : List ℕ
  pub exponent : ℤ

-- the bytes spell the parts
pub record Spells (bytes : List ℕ) (p : Parts) : Type 0 where
  pub exponent_text : List ℕ
  pub whole : IsWhole p.whole
  pub fraction : AreDigits p.fraction
  pub exponent : IsExponent exponent_text p.exponent
  pub joined : bytes ≡ sign_text p.minus ++ p.whole ++ fraction_text p.fraction ++ exponent_text

-- m * 10^k, rounded
unfoldable pub scaled : ℤ → ℤ → ℤ
scaled m (pos k) = m *ℤ pos (10 ^ k)
scaled m (negsuc k) = rounded m (10 ^ suc k)

-- the exact value in millionths, rounded: the digits without the point, times a power of ten
unfoldable pub decimal_value : Parts → ℤ
decimal_value p = scaled (signed p.minus (number_of (p.whole ++ p.fraction))) (p.exponent -ℤ pos (length p.fraction) +ℤ pos 6)

-- the bytes are a JSON number
abbrev pub IsJsonNumber : List ℕ → Type 0
IsJsonNumber bytes = (p : Parts) × Spells bytes p

-- the bytes are a JSON number of so many millionths
abbrev pub Reads : List ℕ → ℤ → Type 0
Reads bytes m = (p : Parts) × Spells bytes p × (m ≡ decimal_value p)

half_a_millionth : decimal_value (record { minus = false; whole = codes "0"; fraction = codes "0000005"; exponent = pos 0 }) ≡ pos 1
unfolding decimal_value scaled rounded floor_quotient
half_a_millionth = refl

minus_one_and_a_half_millionths :
    decimal_value (record { minus = true; whole = codes "0"; fraction = codes "0000015"; exponent = pos 0 }) ≡ negsuc 0
unfolding decimal_value scaled rounded floor_quotient
minus_one_and_a_half_millionths = refl

the_greatest_number : decimal_value (record { minus = false; whole = codes "1"; fraction = []; exponent = pos 15 }) ≡ pos limit
unfolding decimal_value scaled rounded floor_quotient
the_greatest_number = refl

a_tenth_of_a_millionth : decimal_value (record { minus = false; whole = codes "1"; fraction = []; exponent = negsuc 6 }) ≡ pos 0
unfolding decimal_value scaled rounded floor_quotient
a_tenth_of_a_millionth = refl
