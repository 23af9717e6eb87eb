-- What holds of rounding, of multiples, of roots and of texts, whatever the numbers.
use Rattle.std.specs.Prelude.{ℕ, ◌*◌, ◌<◌, List, ◌++◌, Option, Ok, IsTrue, ℤ, pos, ◌+ℤ◌, ◌-ℤ◌, ◌*ℤ◌, ◌≤ℤ◌, ◌<ℤ◌, ◌≡◌, unsigned_abs}
use Rattle.fixed_num.specs.Number.{IsNumber, IsRoot, root_of, rounded, rounded_ratio, floored, ceiled}
use Rattle.fixed_num.specs.Decimal.{spelling}
use Rattle.fixed_num.specs.JsonNumber.{Reads}
use Rattle.fixed_num.specs.Ranges.{in_range}
use Rattle.fixed_num.specs.Front.{first, ends_number, decimal_at}

-- a greater fraction rounds to no lesser number
abbrev pub RoundedKeepsOrder : Type 0
RoundedKeepsOrder = (p r : ℤ) (q : ℕ) → p ≤ℤ r → rounded p q ≤ℤ rounded r q

-- over a divisor above zero a ratio is rounded as a fraction
abbrev pub RatioIsFraction : Type 0
RatioIsFraction = (p q : ℤ) → pos 0 <ℤ q → rounded_ratio p q ≡ rounded p (unsigned_abs q)

-- a whole number rounds to itself
abbrev pub RoundedIsExact : Type 0
RoundedIsExact = (m : ℤ) (q : ℕ) → 0 < q → rounded (m *ℤ pos q) q ≡ m

-- the middle between m and m + 1 rounds to m + 1, on both sides of zero
abbrev pub MiddleGoesUp : Type 0
MiddleGoesUp = (m : ℤ) (q : ℕ) → 0 < q → rounded (m *ℤ pos (2 * q) +ℤ pos q) (2 * q) ≡ m +ℤ pos 1

-- the multiple below a number is less than a step away from it
pub record IsMultipleBelow (m s z : ℤ) : Type 0 where
  pub times : ℤ
  pub multiple : z ≡ times *ℤ s
  pub not_above : z ≤ℤ m
  pub nearest : m <ℤ (z +ℤ s)

abbrev pub FlooredIsMultiple : Type 0
FlooredIsMultiple = (m s : ℤ) → pos 0 <ℤ s → IsMultipleBelow m s (floored m s)

-- the multiple above a number is less than a step away from it
pub record IsMultipleAbove (m s z : ℤ) : Type 0 where
  pub times : ℤ
  pub multiple : z ≡ times *ℤ s
  pub not_below : m ≤ℤ z
  pub nearest : (z -ℤ s) <ℤ m

abbrev pub CeiledIsMultiple : Type 0
CeiledIsMultiple = (m s : ℤ) → pos 0 <ℤ s → IsMultipleAbove m s (ceiled m s)

-- a number has one root at most
abbrev pub OneRoot : Type 0
OneRoot = (m t u : ℤ) → IsRoot m t → IsRoot m u → t ≡ u

-- the root as a function is the root
abbrev pub RootOfIsRoot : Type 0
RootOfIsRoot = (m : ℤ) → IsNumber m → pos 0 ≤ℤ m → IsRoot m (root_of m)

-- what is written of a number is read as that number
abbrev pub WrittenIsRead : Type 0
WrittenIsRead = (m : ℤ) → IsNumber m → Reads (spelling m) m

-- bytes are one number at most
abbrev pub OneValue : Type 0
OneValue = (bytes : List ℕ) (m n : ℤ) → Reads bytes m → Reads bytes n → m ≡ n

-- what is found at the front is a number that is spelled there
pub record IsAtFront (bytes rest : List ℕ) (found : Option ℤ) : Type 0 where
  pub word : List ℕ
  pub value : ℤ
  pub joined : bytes ≡ word ++ rest
  pub spelled : Reads word value
  pub number : found ≡ in_range value

abbrev pub FrontIsSpelled : Type 0
FrontIsSpelled = (bytes rest : List ℕ) (found : Option ℤ) → decimal_at bytes ≡ Ok (found, rest) → IsAtFront bytes rest found

-- a number before a byte that can't go on with it is found whole
abbrev pub SpelledIsFront : Type 0
SpelledIsFront = (word rest : List ℕ) (m : ℤ) → Reads word m → IsTrue (ends_number (first rest))
    → decimal_at (word ++ rest) ≡ Ok (in_range m, rest)
