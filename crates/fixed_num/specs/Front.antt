-- A number at the front of bytes, found from left to right: each part takes as many bytes as go on with it.
use Rattle.std.specs.Prelude.{ℕ, ◌==◌, ◌||◌, ◌&&◌, not, List, [], ◌∷◌, length, drop, slice_index, ℤ, pos, negsuc, Bool, Option, Some, None}
use Rattle.std.specs.Prelude.{Result, Ok, Err, if◌then◌else◌, ◌≡◌, codes, refl}
use Rattle.std.specs.Char.{is_ascii_digit}
use Rattle.fixed_num.specs.Number.{signed, rounded, floor_quotient}
use Rattle.fixed_num.specs.Ranges.{in_range}
use Rattle.fixed_num.specs.Steps.{◌>>=◌}
use Rattle.fixed_num.specs.JsonNumber.{Parts, number_of, scaled, decimal_value}

-- what is found at the front, and the bytes after it; or how many bytes are left where nothing goes on
abbrev pub Read : Type 0 → Type 0
Read A = Result (A × List ℕ) ℕ

-- nothing goes on at the front of the bytes
abbrev pub stop : {A : Type 0} → List ℕ → Result A ℕ
stop bytes = Err (length bytes)

-- the first byte, 0 where there is none
abbrev pub first : List ℕ → ℕ
first bytes = slice_index bytes 0

-- the digits at the front, and the bytes after them
unfoldable pub leading_digits : List ℕ → List ℕ
leading_digits [] = []
leading_digits (b ∷ rest) = if is_ascii_digit b then b ∷ leading_digits rest else []

unfoldable pub after_digits : List ℕ → List ℕ
after_digits [] = []
after_digits (b ∷ rest) = if is_ascii_digit b then after_digits rest else b ∷ rest

-- one or more digits
unfoldable pub digits_at : List ℕ → Read (List ℕ)
digits_at bytes = if is_ascii_digit (first bytes) then Ok (leading_digits bytes, after_digits bytes) else stop bytes

-- a whole part: one zero, or digits without a zero in front
unfoldable pub whole_at : List ℕ → Read (List ℕ)
whole_at bytes = if first bytes == 48 then Ok (48 ∷ [], drop 1 bytes) else digits_at bytes

-- the digits of a fraction: none, or one or more after a point
unfoldable pub fraction_at : List ℕ → Read (List ℕ)
fraction_at bytes = if first bytes == 46 then digits_at (drop 1 bytes) else Ok ([], bytes)

abbrev pub is_sign : ℕ → Bool
is_sign b = (b == 43) || (b == 45)

-- `e` or `E`
abbrev pub is_mark : ℕ → Bool
is_mark b = (b == 101) || (b == 69)

-- the bytes after a plus, a minus or no sign
abbrev pub after_sign : List ℕ → List ℕ
after_sign bytes = if is_sign (first bytes) then drop 1 bytes else bytes

-- the number of digits behind a sign or none
unfoldable pub signed_at : List ℕ → Read ℤ
signed_at bytes = digits_at (after_sign bytes) >>= λ x. Ok (signed (first bytes == 45) (number_of x.0), x.1)

-- an exponent: nothing, which is 0, or a mark before digits behind a sign or none
unfoldable pub exponent_at : List ℕ → Read ℤ
exponent_at bytes = if is_mark (first bytes) then signed_at (drop 1 bytes) else Ok (pos 0, bytes)

-- the bytes after a minus or none
abbrev pub after_minus : List ℕ → List ℕ
after_minus bytes = if first bytes == 45 then drop 1 bytes else bytes

-- a JSON number by its parts
unfoldable pub parts_at : List ℕ → Read Parts
parts_at bytes = do
  whole ← whole_at (after_minus bytes)
  fraction ← fraction_at whole.1
  exponent ← exponent_at fraction.1
  Ok (record { minus = first bytes == 45; whole = whole.0; fraction = fraction.0; exponent = exponent.0 }, exponent.1)

-- a JSON number by its value, None where that is out of range
unfoldable pub decimal_at : List ℕ → Read (Option ℤ)
decimal_at bytes = parts_at bytes >>= λ x. Ok (in_range (decimal_value x.0), x.1)

-- what may stand after a number: no digit, no point and no mark of an exponent
abbrev pub ends_number : ℕ → Bool
ends_number b = not (is_ascii_digit b) && not (b == 46) && not (is_mark b)

a_number_before_a_comma : decimal_at (codes "-1.5e1,2") ≡ Ok (Some (negsuc 14999999), codes ",2")
unfolding decimal_at parts_at whole_at fraction_at exponent_at signed_at
    digits_at leading_digits after_digits decimal_value scaled rounded floor_quotient
a_number_before_a_comma = refl

a_zero_before_a_digit : decimal_at (codes "01") ≡ Ok (Some (pos 0), codes "1")
unfolding decimal_at parts_at whole_at fraction_at exponent_at signed_at
    digits_at leading_digits after_digits decimal_value scaled rounded floor_quotient
a_zero_before_a_digit = refl

a_number_out_of_range : decimal_at (codes "1e16") ≡ Ok (None, [])
unfolding decimal_at parts_at whole_at fraction_at exponent_at signed_at
    digits_at leading_digits after_digits decimal_value scaled rounded floor_quotient
a_number_out_of_range = refl

a_point_before_no_digit : decimal_at (codes "1.x") ≡ Err 1
unfolding decimal_at parts_at whole_at fraction_at exponent_at signed_at
    digits_at leading_digits after_digits decimal_value scaled rounded floor_quotient
a_point_before_no_digit = refl
